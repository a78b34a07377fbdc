-- The registers of a run's start: the entries that last were taken in, the others are zero.
use Rattle.std.proofs.Common.{◌≡◌, ℕ, ◌-◌, ◌<◌, ◌≤◌, min, Bool, cond, List, ◌++◌, length, get_or, take, drop, replicate, set, sym, ap, ◌∙◌, inl, inr, ⊎_elim, arith, length-set, get_or-set_other, get_or-set_same}
use borrow.Rule.Slice.PartMut.{put_mid}
use Rattle.std.proofs.lemmas.Bool.{cases_eq, cases_lt}
use Rattle.std.proofs.lemmas.List.{length-append, length-take, length-drop, length-replicate, get_or_append_left, get_or-append_right, get_or-take, get_or-replicate}
use Rattle.std.proofs.lemmas.List.FromFn.{fill_by_all}
use Rattle.isa.specs.Compartments.{entry_value, keeps, started}
use Rattle.isa.specs.Windows.{load}
use Rattle.isa.proofs.Filing.{not_kept}
use Rattle.compartment.proofs.Entries.{lasts, load_entry}

module _ (file : List ℕ) (saved kept : ℕ) (full : length file ≡ 2064) (count : kept ≡ min saved 256) (rs zs : List ℕ) (p s : ℕ) (long : length rs ≡ 258) (taken : (k : ℕ) → k < kept → get_or rs k 0 ≡ entry_value file k) (zeros : zs ≡ replicate (256 - kept) 0) (p_is : p ≡ load file 8 2048) (s_is : s ≡ load file 8 2056) where
  length_general : length (put_mid kept (256 - kept) rs zs) ≡ 258
  length_general =
      let z : length zs ≡ 256 - kept = ap (λ (l : List ℕ). length l) zeros ∙ length-replicate (256 - kept) 0 in
      length-append (take kept rs) (zs ++ drop (256 - kept) (drop kept rs))
      ∙ omega (arith, length-append zs (drop (256 - kept) (drop kept rs)), length-take kept rs, length-drop (256 - kept) (drop kept rs), length-drop kept rs)

  below : (k : ℕ) → k < kept → get_or (put_mid kept (256 - kept) rs zs) k 0 ≡ entry_value file k
  below k h =
      let l = length-take kept rs in
      get_or_append_left (take kept rs) (zs ++ drop (256 - kept) (drop kept rs)) 0 k (omega arith) ∙ get_or-take kept rs k 0 h ∙ taken k h

  above : (k : ℕ) → kept ≤ k → k < 256 → get_or (put_mid kept (256 - kept) rs zs) k 0 ≡ 0
  above k h u =
      let rest = drop (256 - kept) (drop kept rs) in
      let l : length (take kept rs) ≡ kept = length-take kept rs ∙ omega arith in
      let z : length zs ≡ 256 - kept = ap (λ (l : List ℕ). length l) zeros ∙ length-replicate (256 - kept) 0 in
      get_or-append_right (take kept rs) (zs ++ rest) kept k 0 l h
      ∙ get_or_append_left zs rest 0 (k - kept) (omega arith)
      ∙ ap (λ (xs : List ℕ). get_or xs (k - kept) 0) zeros
      ∙ get_or-replicate (256 - kept) (k - kept) 0 0 (omega arith)

  general : (k : ℕ) → k < 256 → get_or (put_mid kept (256 - kept) rs zs) k 0 ≡ cond (keeps saved k) (entry_value file k) 0
  general k u =
      ⊎_elim
      (λ (h : k < kept). below k h ∙ sym (ap (λ (b : Bool). cond b (entry_value file k) 0) (lasts saved k (inl (omega arith)))))
      (λ (h : kept ≤ k). above k h u ∙ sym (ap (λ (b : Bool). cond b (entry_value file k) 0) (not_kept saved k (omega arith) u)))
      (cases_lt k kept)

  each : (k : ℕ) → k < 258 → get_or (set (set (put_mid kept (256 - kept) rs zs) 256 p) 257 s) k 0 ≡ cond (keeps saved k) (entry_value file k) 0
  each k h =
      let xs = put_mid kept (256 - kept) rs zs in
      let l = length-set xs 256 p in
      ⊎_elim
      (λ (e : k ≡ 257). rw e (get_or-set_same (set xs 256 p) 257 s 0 (omega (arith, length_general))
      ∙ s_is ∙ load_entry file full 257 (omega arith) ∙ sym (ap (λ (b : Bool). cond b (entry_value file 257) 0) (lasts saved 257 (inr (omega arith))))))
      (λ (ne : k ≡ 257 → ⊥). get_or-set_other (set xs 256 p) 257 k s 0 ne ∙ ⊎_elim
      (λ (e : k ≡ 256). rw e (get_or-set_same xs 256 p 0 (omega (arith, length_general))
      ∙ p_is ∙ load_entry file full 256 (omega arith) ∙ sym (ap (λ (b : Bool). cond b (entry_value file 256) 0) (lasts saved 256 (inr (omega arith))))))
      (λ (no : k ≡ 256 → ⊥). get_or-set_other xs 256 k p 0 no ∙ general k (omega arith))
      (cases_eq k 256))
      (cases_eq k 257)

  pub started_is : set (set (put_mid kept (256 - kept) rs zs) 256 p) 257 s ≡ started file saved
  unfolding started
  started_is =
      let xs = put_mid kept (256 - kept) rs zs in
      fill_by_all (λ k. cond (keeps saved k) (entry_value file k) 0) (set (set xs 256 p) 257 s) 258 0
      (length-set (set xs 256 p) 257 s ∙ length-set xs 256 p ∙ length_general) each
