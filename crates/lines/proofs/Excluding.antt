-- A line that has a fault asks for no command.
use Rattle.std.proofs.Common.{◌≡◌, ℕ, suc, ◌<◌, List, [], ◌∷◌, length, get_or, Err, Option, Result, sym, subst, inl, inr, arith, rules}
use Rattle.lines.specs.Commands.{Asks, AsksMake, Behind, BehindMake, CallOperands, Reads, Silent}
use Rattle.lines.specs.Faulty.{BehindFails, BytesFail, EndFails, Faulty, LastFails, MakeFails, MemoryFails, Misfits, NextFails, OperandsFail}
use Rattle.lines.specs.Hexadecimal.{HexOperand}
use Rattle.lines.specs.Keywords.{command_text, make_text}
use Rattle.lines.specs.Operands.{Filled, FilledOr, Gives}
use Rattle.lines.specs.declared.command.Command.{Command}
use Rattle.lines.specs.declared.command.MemoryMake.{MemoryMake}
use Rattle.lines.specs.declared.fault.Fault.{Fault}
use Rattle.lines.specs.declared.keyword.CommandWord.{CommandWord}
use Rattle.lines.specs.declared.keyword.CommandWord.TheVariants as first
use Rattle.lines.specs.declared.keyword.MakeWord.{MakeWord}
use Rattle.lines.specs.declared.keyword.MakeWord.TheVariants as second
use Rattle.lines.specs.declared.operand.Operand.{Operand}
use Rattle.lines.specs.declared.operand.Operand.TheVariants as operand
use Rattle.lines.specs.declared.operand.Operand.TheVariants.{N, M, Off, Max, File, Saved, Size, K, Address, Index, Length, Budget, Work}
use Rattle.lines.proofs.Numbers.{one_number}

-- no two commands, and no two makes, have one name
same_command : (j k : CommandWord) → command_text j ≡ command_text k → j ≡ k
same_command j k e = search rules

same_make : (j k : MakeWord) → make_text j ≡ make_text k → j ≡ k
same_make j k e = search rules

-- and no command begins with #
no_mark : (k : CommandWord) → get_or (command_text k) 0 0 ≡ 35 → ⊥
no_mark k e = search rules

module _ (fault : Fault) where
  -- a word that does not fit gives no value
  misfits_gives : (o : Operand) (w : List ℕ) (n : ℕ) → Misfits o w fault → Gives o w n → ⊥
  misfits_gives o w n (inl (tells, none)) gives = none n gives.0.1
  misfits_gives o w n (inr (tells, (m, written, more))) gives = let same = one_number w m n written gives.0.1 in omega (arith, gives.1)

  next_gives : (o : Operand) (ws : List (List ℕ)) (w : List ℕ) (vs : List (List ℕ)) (n : ℕ) → ws ≡ w ∷ vs → NextFails o ws fault → Gives o w n → ⊥
  next_gives o ws w vs n e fails gives = misfits_gives o w n (subst (λ (us : List (List ℕ)). NextFails o us fault) e fails) gives

  -- as many words as operands, each of which gives a value
  abbrev Fit : List Operand → List (List ℕ) → Type 0
  Fit os ws = (length ws ≡ length os) × ((k : ℕ) → k < length os → (n : ℕ) × Gives (get_or os k N) (get_or ws k []) n)

  fails_fit : (os : List Operand) (ws : List (List ℕ)) → OperandsFail os EndFails ws fault → Fit os ws → ⊥
  fails_fit [] [] fails fit = fails
  fails_fit [] (w ∷ ws) fails fit = absurd (omega (arith, fit.0))
  fails_fit (o ∷ os) [] fails fit = absurd (omega (arith, fit.0))
  fails_fit (o ∷ os) (w ∷ ws) (inl next) fit = misfits_gives o w _ next (fit.1 0 (omega arith)).1
  fails_fit (o ∷ os) (w ∷ ws) (inr (v, vs, n, e, gives, fails)) fit =
      let same : vs ≡ ws = cc in
      fails_fit os ws (subst (λ (us : List (List ℕ)). OperandsFail os EndFails us fault) same fails) (omega (arith, fit.0), λ k h. fit.1 (suc k) (omega arith))

  fails_filled : (os : List Operand) (ws : List (List ℕ)) (ns : List ℕ) → OperandsFail os EndFails ws fault → Filled os ws ns → ⊥
  fails_filled os ws ns fails (long, all) = fails_fit os ws fails (long, λ k h. (get_or ns k 0, all k h))

  end_fails : (ws : List (List ℕ)) → EndFails ws fault → ws ≡ [] → ⊥
  end_fails [] fails e = fails
  end_fails (w ∷ ws) fails e = absurd (cc)

  bytes_fail : (hex : List ℕ) (ws : List (List ℕ)) → BytesFail ws fault → HexOperand ws hex → ⊥
  bytes_fail hex [] fails is = fails
  bytes_fail hex (w ∷ []) (inl (tells, none)) is = none is.1
  bytes_fail hex (w ∷ []) (inr (pairs, fails)) is = fails
  bytes_fail hex (w ∷ v ∷ ws) fails is = is

  last_fails : (o : Operand) (d n : ℕ) (ws : List (List ℕ)) → LastFails o ws fault → FilledOr o d ws n → ⊥
  last_fails o d n [] fails is = fails
  last_fails o d n (w ∷ []) (inl misfits) is = misfits_gives o w n misfits is
  last_fails o d n (w ∷ []) (inr (m, gives, fails)) is = fails
  last_fails o d n (w ∷ v ∷ ws) fails is = is

  module _ (o : Operand) (RestFails : List (List ℕ) → Fault → Type 0) (Last : List (List ℕ) → Type 0) (apart : (vs : List (List ℕ)) → RestFails vs fault → Last vs → ⊥) where
    call_fails : (ws : List (List ℕ)) (k n : ℕ) → OperandsFail (K ∷ o ∷ []) RestFails ws fault → CallOperands o Last ws k n → ⊥
    call_fails ws k n (inl next) (v, w, us, e, given, also, last) = next_gives K ws v _ k e next given
    call_fails ws k n (inr (x, xs, m, d, gives, inl next)) (v, w, us, e, given, also, last) = let same : xs ≡ w ∷ us = cc in next_gives o xs w us n same next also
    call_fails ws k n (inr (x, xs, m, d, gives, inr (y, ys, l, c, found, fails))) (v, w, us, e, given, also, last) =
        let same : ys ≡ us = cc in apart us (subst (λ (vs : List (List ℕ)). RestFails vs fault) same fails) last

  make_fails : (k : MakeWord) (ws : List (List ℕ)) (m : MemoryMake) → MakeFails k ws fault → BehindMake k ws m → ⊥
  make_fails second.Flat ws m fails (n, is, filled) = fails_filled (N ∷ []) ws (n ∷ []) fails filled
  make_fails second.Words ws m fails (n, is, filled) = fails_filled (N ∷ []) ws (n ∷ []) fails filled
  make_fails second.Spliced ws m fails (n, l, is, filled) = fails_filled (N ∷ M ∷ []) ws (n ∷ l ∷ []) fails filled

  memory_fails : (ws : List (List ℕ)) (m : MemoryMake) → MemoryFails ws fault → AsksMake ws m → ⊥
  memory_fails [] m fails (k, us, e, behind) = absurd (cc)
  memory_fails (w ∷ ws) m (inl (tells, none)) (k, us, e, behind) = none k (cc)
  memory_fails (w ∷ ws) m (inr (j, named, fails)) (k, us, e, behind) =
      let texts : make_text k ≡ make_text j = cc in
      let rest : us ≡ ws = cc in
      make_fails j ws m fails (subst (λ (i : MakeWord). BehindMake i ws m) (same_make k j texts) (subst (λ (vs : List (List ℕ)). BehindMake k vs m) rest behind))

  behind_fails : (k : CommandWord) (ws : List (List ℕ)) (c : Command) → BehindFails k ws fault → Behind k ws c → ⊥
  behind_fails first.Memory ws c fails (m, is, asks) = memory_fails ws m fails asks
  behind_fails first.Row ws c fails (r, is, filled) = fails_filled (Off ∷ Max ∷ File ∷ Saved ∷ []) ws (r.off ∷ r.max ∷ r.file ∷ r.saved ∷ []) fails filled
  behind_fails first.Lay ws c fails (n, is, filled) = fails_filled (Size ∷ []) ws (n ∷ []) fails filled
  behind_fails first.Make ws c fails (is, none) = end_fails ws fails none
  behind_fails first.Put ws c fails (k, a, hex, is, operands) = call_fails Address BytesFail (λ vs. HexOperand vs hex.now) (λ vs. bytes_fail hex.now vs) ws k a fails operands
  behind_fails first.Set ws c fails (k, i, w, is, filled) = fails_filled (K ∷ Index ∷ operand.Word ∷ []) ws (k ∷ i ∷ w ∷ []) fails filled
  behind_fails first.Fetch ws c fails (k, a, n, is, filled) = fails_filled (K ∷ Address ∷ Length ∷ []) ws (k ∷ a ∷ n ∷ []) fails filled
  behind_fails first.Get ws c fails (k, i, is, filled) = fails_filled (K ∷ Index ∷ []) ws (k ∷ i ∷ []) fails filled
  behind_fails first.Run ws c fails (k, b, n, is, operands) = call_fails Budget (LastFails Work) (λ vs. FilledOr Work 258 vs n) (λ vs. last_fails Work 258 n vs) ws k b fails operands
  behind_fails first.Last ws c fails (k, is, filled) = fails_filled (K ∷ []) ws (k ∷ []) fails filled
  behind_fails first.Release ws c fails (is, none) = end_fails ws fails none

  pub faulty_asks : (words : List (List ℕ)) (c : Command) → Faulty words fault → Asks words c → ⊥
  faulty_asks [] c fails (k, us, e, behind) = absurd (cc)
  faulty_asks (w ∷ ws) c (inl (tells, none)) (k, us, e, behind) = none k (cc)
  faulty_asks (w ∷ ws) c (inr (j, named, fails)) (k, us, e, behind) =
      let texts : command_text k ≡ command_text j = cc in
      let rest : us ≡ ws = cc in
      behind_fails j ws c fails (subst (λ (i : CommandWord). Behind i ws c) (same_command k j texts) (subst (λ (vs : List (List ℕ)). Behind k vs c) rest behind))

  -- a line that begins with a command, behind which something fails
  pub line_fails : (words : List (List ℕ)) (w : List ℕ) (ws : List (List ℕ)) (k : CommandWord) → words ≡ w ∷ ws → w ≡ command_text k → BehindFails k ws fault → (r : Result (Option Command) Fault) → r ≡ Err fault → Reads words r
  line_fails words w ws k e named fails r is =
      let faulty : Faulty (w ∷ ws) fault = inr (k, named, fails) in
      let silent : Silent (w ∷ ws) → ⊥ = λ h. no_mark k (subst (λ (v : List ℕ). get_or v 0 0 ≡ 35) named h) in
      let reads : Reads (w ∷ ws) (Err fault) = ((silent, λ c. faulty_asks (w ∷ ws) c faulty), faulty) in
      subst (λ (vs : List (List ℕ)). Reads vs r) (sym e) (subst (λ (q : Result (Option Command) Fault). Reads (w ∷ ws) q) (sym is) reads)
