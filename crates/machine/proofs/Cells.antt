-- A compartment by itself: what each call that names it does to its own bytes and record.
use Rattle.std.proofs.Common.{◌≡◌, ℕ, ◌+◌, ◌*◌, ◌<◌, ◌≤◌, ltb, List, length, get_or, Some, None, Err, Option, Result, refl, sym, ap, ◌∙◌, inl, inr, arith}
use Rattle.std.proofs.lemmas.Bool.{le-ltb, cond-false}
use Rattle.std.proofs.lemmas.List.{get_or-set_same}
use Rattle.std.proofs.lemmas.List.Edits.{sets}
use Rattle.std.proofs.lemmas.Option.{slice_get_within}
use Rattle.std.proofs.Math.Seq.{length-sets}
use Rattle.memory.specs.Bytes.{value_at, bytes_of}
use Rattle.memory.specs.Elements.{length-bytes_of}
use Rattle.window.proofs.Seeing.{value_at-part}
use Rattle.isa.specs.Compartments.{Ended, compartment_ran}
use Rattle.runs.proofs.Files.{files_keep_lem}
use Rattle.plan.specs.Plans.{rows_of}
use Rattle.plan.specs.declared.plan.Plan.{Plan}
use Rattle.plan.specs.declared.row.Row.{Row}
use Rattle.plan.proofs.Found.{sound}
use Rattle.machine.specs.Refusals.{refusal_number}
use Rattle.machine.specs.States.{State, row_of}
use Rattle.machine.specs.Calls.{Call, Put, Fetch, Set, Get, Run, Last, Answer, Refused, Done, Filled, Word, Ended as EndedWith, Latest, named}
use Rattle.machine.specs.Outcomes.{part, ground, row_or, row_unless, grant_at, by_grant, run_of, accepted, outcome}
use Rattle.machine.specs.Separation.{Roomy, OnlyChanges}
use Rattle.machine.specs.declared.refusal.Refusal.{Refusal}
use Rattle.machine.specs.declared.refusal.Refusal.TheVariants as refusal
use Rattle.machine.proofs.Pieces.{sets_out, length_part, part_same, part_inside, part_whole, part_part}
use Rattle.machine.proofs.Keeping.{Room, room, held_row, qword_sets, keeps}

pub record Cell : Type 0 where
  pub long : ℕ
  pub saved : ℕ
  pub window : List ℕ
  pub file : List ℕ
  pub latest : Option (ℕ × ℕ)

abbrev pub cell_at : State → ℕ → Row → Cell
cell_at s k r =
    record {
      long = r.max + 1;
      saved = r.saved;
      window = part s.held r.off (r.max + 1);
      file = part s.held r.file 2064;
      latest = get_or s.latest k None;
    }

abbrev pub cell_by : State → ℕ → Option Row → Option Cell
cell_by s k None = None
cell_by s k (Some r) = Some (cell_at s k r)

abbrev pub cell : State → ℕ → Option Cell
cell s k = cell_by s k (row_of s.plan k)

abbrev with_run : Cell → Ended → Cell
with_run x e = record { long = x.long; saved = x.saved; window = e.window; file = e.file; latest = Some (e.code, e.count) }

abbrev pub done : Cell → Call → Answer × Cell
done x (Put k a bs) = (Done, record x { window = sets x.window a bs })
done x (Fetch k a n) = (Filled (part x.window a n), x)
done x (Set k i w) = (Done, record x { file = sets x.file (8 * i) (bytes_of 8 w) })
done x (Get k i) = (Word (value_at x.file (8 * i) 8), x)
done x (Run k budget work) =
    let e = compartment_ran x.window x.file x.saved budget in (EndedWith e.code e.count, with_run x e)
done x (Last k) = (Latest x.latest, x)

abbrev pub judged : Cell → Call → Option Refusal → Answer × Option Cell
judged x c (Some e) = (Refused (refusal_number e), Some x)
judged x c None = ((done x c).0, Some (done x c).1)

abbrev pub alone : Call → Option Cell → Answer × Option Cell
alone c None = (Refused 108, None)
alone c (Some x) = judged x c (ground x.long c)

-- what every state of a session keeps, where its memory has the laid size
pub record Good (s : State) : Type 0 where
  pub roomy : Roomy s
  pub sixteen : length s.latest ≡ 16

pub good_after : (s : State) (c : Call) → Good s → Good (outcome s c).1
good_after s c g =
    let h = keeps s c in
    let o = h.only in
    record {
      roomy = omega (arith, ap (λ (p : Plan). p.size) o.same_plan, o.same_length, g.roomy);
      sixteen = h.as_many ∙ g.sixteen;
    }

same_cell : (long saved : ℕ) (w w' f f' : List ℕ) (l l' : Option (ℕ × ℕ)) → w ≡ w' → f ≡ f' → l ≡ l' → ◌≡◌ {A = Cell} (record { long = long; saved = saved; window = w; file = f; latest = l }) (record { long = long; saved = saved; window = w'; file = f'; latest = l' })
same_cell long saved w w' f f' l l' p q o =
    λ i. record { long = long; saved = saved; window = p i; file = q i; latest = o i }

module _ (s : State) (r : Row) (k : ℕ) (g : Good s) (e : row_of s.plan k ≡ Some r) where
  window_in : r.off + (r.max + 1) ≤ length s.held
  window_in = (held_row s k r g.roomy e).0

  file_in : r.file + 2064 ≤ length s.held
  file_in = (held_row s k r g.roomy e).1

  -- writes into the window leave the register file, and the other way round
  file_kept : (vs l : List ℕ) (i : ℕ) → r.off ≤ i → i + length vs ≤ r.off + (r.max + 1) → part (sets l i vs) r.file 2064 ≡ part l r.file 2064
  file_kept vs l i low high =
      part_same (sets l i vs) l r.file 2064 (length-sets l i vs)
      (λ a m. sets_out vs l i a 0 (λ n. (sound s.plan).split k r e (a, ((omega arith, omega arith), m))))

  window_kept : (vs l : List ℕ) (i : ℕ) → r.file ≤ i → i + length vs ≤ r.file + 2064 → part (sets l i vs) r.off (r.max + 1) ≡ part l r.off (r.max + 1)
  window_kept vs l i low high =
      part_same (sets l i vs) l r.off (r.max + 1) (length-sets l i vs)
      (λ a m. sets_out vs l i a 0 (λ n. (sound s.plan).split k r e (a, ((omega arith, omega arith), (omega arith, omega arith)))))

abbrev Own : State → Row → Call → Type 0
Own s r c =
    ((accepted s r c).0 ≡ (done (cell_at s (named c) r) c).0) × (cell_at (accepted s r c).1 (named c) r ≡ (done (cell_at s (named c) r) c).1)

accepted_own : (s : State) (r : Row) (c : Call) → Good s → row_of s.plan (named c) ≡ Some r → Room (r.max + 1) c → Own s r c
accepted_own s r (Put k a bs) g e h =
    (refl, same_cell _ _ _ _ _ _ _ _ (part_inside bs s.held r.off (r.max + 1) a (window_in s r k g e) h) (file_kept s r k g e bs s.held (r.off + a) (omega arith) (omega arith)) refl)
accepted_own s r (Fetch k a n) g e h = (ap Filled (part_part s.held r.off (r.max + 1) a n (window_in s r k g e) h), refl)
accepted_own s r (Set k i w) g e h =
    let n = length-bytes_of 8 w in
    let is = qword_sets s.held (r.file + 8 * i) w (omega (arith, file_in s r k g e)) in (
      refl,
      same_cell _ _ _ _ _ _ _ _
          (ap (λ (l : List ℕ). part l r.off (r.max + 1)) is ∙ window_kept s r k g e (bytes_of 8 w) s.held (r.file + 8 * i) (omega arith) (omega (arith, n)))
          (ap (λ (l : List ℕ). part l r.file 2064) is ∙ part_inside (bytes_of 8 w) s.held r.file 2064 (8 * i) (file_in s r k g e) (omega (arith, n)))
          refl,
    )
accepted_own s r (Get k i) g e h = (ap Word (value_at-part s.held r.file 2064 (8 * i) 8 (omega arith)), refl)
accepted_own s r (Run k budget work) g e h =
    let z = run_of s r budget in
    let keep = files_keep_lem (part s.held r.off (r.max + 1)) (part s.held r.file 2064) r.saved budget (length_part s.held r.file 2064 (file_in s r k g e)) in
    let lw : length z.window ≡ r.max + 1 = keep.same_window ∙ length_part s.held r.off (r.max + 1) (window_in s r k g e) in
    let lf : length z.file ≡ 2064 = keep.same_file in
    let m = sets s.held r.off z.window in
    let lm : length m ≡ length s.held = length-sets s.held r.off z.window in
    let near : k < length s.latest = omega (arith, slice_get_within (rows_of s.plan) k r e, (sound s.plan).few, g.sixteen) in (
      refl,
      same_cell _ _ _ _ _ _ _ _
          (window_kept s r k g e z.file m r.file (omega arith) (omega arith) ∙ part_whole z.window s.held r.off (r.max + 1) (window_in s r k g e) lw)
          (part_whole z.file m r.file 2064 (omega (arith, file_in s r k g e)) lf)
          (get_or-set_same s.latest k (Some (z.code, z.count)) None near),
    )
accepted_own s r (Last k) g e h = (refl, refl)

ground_own : (s : State) (r : Row) (c : Call) → Good s → row_of s.plan (named c) ≡ Some r → (q : Option Refusal) → ground (r.max + 1) c ≡ q → ((by_grant s c (row_unless r q)).0 ≡ (judged (cell_at s (named c) r) c q).0) × (cell_by (by_grant s c (row_unless r q)).1 (named c) (Some r) ≡ (judged (cell_at s (named c) r) c q).1)
ground_own s r c g e (Some x) h = (refl, refl)
ground_own s r c g e None h =
    let own = accepted_own s r c g e (room (r.max + 1) c h) in (own.0, ap Some own.1)

row_own : (s : State) (c : Call) → Good s → (o : Option Row) → row_of s.plan (named c) ≡ o → ((by_grant s c (grant_at c (row_or o))).0 ≡ (alone c (cell_by s (named c) o)).0) × (cell_by (by_grant s c (grant_at c (row_or o))).1 (named c) o ≡ (alone c (cell_by s (named c) o)).1)
row_own s c g None e = (refl, refl)
row_own s c g (Some r) e = ground_own s r c g e (ground (r.max + 1) c) refl

-- a call answers, and leaves its own compartment, as that compartment alone says
pub own : (s : State) (c : Call) → Good s → ((outcome s c).0 ≡ (alone c (cell s (named c))).0) × (cell (outcome s c).1 (named c) ≡ (alone c (cell s (named c))).1)
own s c g =
    let o = row_of s.plan (named c) in
    let here : outcome s c ≡ by_grant s c (grant_at c (row_or o)) =
    ap (λ (x : Result Row Refusal). by_grant s c (grant_at c x))
    (cond-false (ltb (length s.held) s.plan.size) (Err refusal.Memory) (row_or o) (le-ltb (length s.held) s.plan.size g.roomy))
    in
    let mine = row_own s c g o refl in
    let t = (outcome s c).1 in (
      ap (λ (z : Answer × State). z.0) here ∙ mine.0,
      ap (λ (p : Plan). cell_by t (named c) (row_of p (named c))) (keeps s c).only.same_plan
          ∙ ap (λ (z : Answer × State). cell_by z.1 (named c) o) here
          ∙ mine.1,
    )

-- and every other compartment as it was
other_by : (s t : State) (j k : ℕ) → OnlyChanges j s t → (k ≡ j → ⊥) → (o : Option Row) → row_of s.plan k ≡ o → cell_by t k o ≡ cell_by s k o
other_by s t j k h ne None e = refl
other_by s t j k h ne (Some r) e =
    ap Some (same_cell _ _ _ _ _ _ _ _
    (part_same t.held s.held r.off (r.max + 1) h.same_length
    (λ a m. h.other_bytes a (λ b. (sound s.plan).apart j k b.0 r b.1.0 e (λ q. ne (sym q)) (a, (b.1.1, inl (omega arith, omega arith))))))
    (part_same t.held s.held r.file 2064 h.same_length
    (λ a m. h.other_bytes a (λ b. (sound s.plan).apart j k b.0 r b.1.0 e (λ q. ne (sym q)) (a, (b.1.1, inr m)))))
    (h.other_records k ne))

pub other : (s : State) (c : Call) (k : ℕ) → (k ≡ named c → ⊥) → cell (outcome s c).1 k ≡ cell s k
other s c k ne =
    let h = (keeps s c).only in
    ap (λ (p : Plan). cell_by (outcome s c).1 k (row_of p k)) h.same_plan
    ∙ other_by s (outcome s c).1 (named c) k h ne (row_of s.plan k) refl
