-- What any one call leaves as it was: the plan, the lengths, and every byte and record of the compartments that it does not name.
use Rattle.std.proofs.Common.{◌≡◌, ℕ, ◌+◌, ◌*◌, ◌≤◌, Bool, true, false, cond, ltb, List, ◌++◌, append_assoc, take, drop, length, get_or, Some, None, Err, Option, Result, refl, sym, ap, ◌∙◌, inl, inr, arith, length-set}
use Rattle.std.proofs.lemmas.List.{get_or-set_other}
use Rattle.std.proofs.lemmas.List.Edits.{sets, sets-eq}
use Rattle.std.proofs.lemmas.Bool.{ltb-false, cond_both}
use Rattle.std.proofs.Math.Seq.{length-sets}
use Rattle.memory.specs.Bytes.{put_at, bytes_of}
use Rattle.memory.specs.Elements.{length-bytes_of}
use Rattle.memory.proofs.Puts.{put_at_parts}
use Rattle.runs.proofs.Files.{files_keep_lem}
use Rattle.plan.proofs.Found.{sound}
use Rattle.plan.specs.declared.row.Row.{Row}
use Rattle.machine.specs.States.{State, row_of}
use Rattle.machine.specs.Calls.{Call, Put, Fetch, Set, Get, Run, Last, named}
use Rattle.machine.specs.Outcomes.{part, ground, row_or, row_unless, grant_at, by_grant, run_of, accepted, outcome}
use Rattle.machine.specs.Separation.{Roomy, OnlyChanges}
use Rattle.machine.specs.declared.refusal.Refusal.{Refusal}
use Rattle.machine.specs.declared.refusal.Refusal.TheVariants as refusal
use Rattle.machine.proofs.Pieces.{sets_out, length_part, part_short}

-- an accepted call keeps to its compartment's length
abbrev pub Room : ℕ → Call → Type 0
Room long (Put k a bs) = a + length bs ≤ long
Room long (Fetch k a n) = a + n ≤ long
Room long (Set k i w) = i ≤ 257
Room long (Get k i) = i ≤ 257
Room long (Run k budget work) = Unit {0}
Room long (Last k) = Unit {0}

below : (m n : ℕ) (e : Refusal) (b : Bool) → ltb m n ≡ b → ◌≡◌ {A = Option Refusal} (cond b (Some e) None) None → n ≤ m
below m n e true t h = let z : ◌≡◌ {A = ℕ} 0 1 = cc in absurd (omega arith)
below m n e false t h = ltb-false m n t

pub room : (long : ℕ) (c : Call) → ground long c ≡ None → Room long c
room long (Put k a bs) h = below long (a + length bs) refusal.Span _ refl h
room long (Fetch k a n) h = below long (a + n) refusal.Span _ refl h
room long (Set k i w) h = below 257 i refusal.Index _ refl h
room long (Get k i) h = below 257 i refusal.Index _ refl h
room long (Run k budget work) h = tt
room long (Last k) h = tt

-- a qword is eight writes, one after the other
pub qword_sets : (bs : List ℕ) (a v : ℕ) → a + 8 ≤ length bs → put_at bs a 8 v ≡ sets bs a (bytes_of 8 v)
qword_sets bs a v h =
    let n = length-bytes_of 8 v in
    put_at_parts bs a 8 v h
    ∙ ap (λ (m : ℕ). take a bs ++ (bytes_of 8 v ++ drop (a + m) bs)) (sym n)
    ∙ sym (sets-eq (bytes_of 8 v) bs a (omega (arith, n)) ∙ append_assoc (take a bs) (bytes_of 8 v) (drop (a + length (bytes_of 8 v)) bs))

-- and there are as many records as before
pub record Keeps (k : ℕ) (s t : State) : Type 0 where
  pub only : OnlyChanges k s t
  pub as_many : length t.latest ≡ length s.latest

same : (k : ℕ) (s : State) → Keeps k s s
same k s =
    record { only = record { same_plan = refl; same_length = refl; other_bytes = λ a h. refl; other_records = λ j h. refl }; as_many = refl }

-- Below, the row's areas lie in the memory.
abbrev pub Held : State → Row → Type 0
Held s r = (r.off + (r.max + 1) ≤ length s.held) × (r.file + 2064 ≤ length s.held)

accepted_keeps : (s : State) (r : Row) (c : Call) → row_of s.plan (named c) ≡ Some r → Held s r → Room (r.max + 1) c → Keeps (named c) s (accepted s r c).1
accepted_keeps s r (Put k a bs) e g h =
    record {
      only =
          record {
            same_plan = refl;
            same_length = length-sets s.held (r.off + a) bs;
            other_bytes = λ x out. sets_out bs s.held (r.off + a) x 0 (λ m. out (r, (e, inl (omega arith, omega arith))));
            other_records = λ j ne. refl;
          };
      as_many = refl;
    }
accepted_keeps s r (Fetch k a n) e g h = same k s
accepted_keeps s r (Set k i w) e g h =
    let is = qword_sets s.held (r.file + 8 * i) w (omega (arith, g.1)) in
    let n = length-bytes_of 8 w in
    record {
      only =
          record {
            same_plan = refl;
            same_length = ap (λ (l : List ℕ). length l) is ∙ length-sets s.held (r.file + 8 * i) (bytes_of 8 w);
            other_bytes = λ x out. ap (λ (l : List ℕ). get_or l x 0) is ∙ sets_out (bytes_of 8 w) s.held (r.file + 8 * i) x 0 (λ m. out (r, (e, inr (omega arith, omega (arith, n)))));
            other_records = λ j ne. refl;
          };
      as_many = refl;
    }
accepted_keeps s r (Get k i) e g h = same k s
accepted_keeps s r (Run k budget work) e g h =
    let z = run_of s r budget in
    let l = files_keep_lem (part s.held r.off (r.max + 1)) (part s.held r.file 2064) r.saved budget (length_part s.held r.file 2064 g.1) in
    let w : length z.window ≤ r.max + 1 = omega (arith, l.same_window, part_short s.held r.off (r.max + 1)) in
    let f : length z.file ≡ 2064 = l.same_file in
    record {
      only =
          record {
            same_plan = refl;
            same_length = length-sets (sets s.held r.off z.window) r.file z.file ∙ length-sets s.held r.off z.window;
            other_bytes = λ x out.
                sets_out z.file (sets s.held r.off z.window) r.file x 0 (λ m. out (r, (e, inr (m.0, omega (arith, m.1, f)))))
                ∙ sets_out z.window s.held r.off x 0 (λ m. out (r, (e, inl (m.0, omega (arith, m.1, w)))));
            other_records = λ j ne. get_or-set_other s.latest k j (Some (z.code, z.count)) None ne;
          };
      as_many = length-set s.latest k (Some (z.code, z.count));
    }
accepted_keeps s r (Last k) e g h = same k s

ground_keeps : (s : State) (r : Row) (c : Call) → row_of s.plan (named c) ≡ Some r → Held s r → (q : Option Refusal) → ground (r.max + 1) c ≡ q → Keeps (named c) s (by_grant s c (row_unless r q)).1
ground_keeps s r c e g (Some x) h = same (named c) s
ground_keeps s r c e g None h = accepted_keeps s r c e g (room (r.max + 1) c h)

-- the row that is found, in a memory that has the laid size
pub held_row : (s : State) (k : ℕ) (r : Row) → Roomy s → row_of s.plan k ≡ Some r → Held s r
held_row s k r roomy e = let fit = (sound s.plan).bounded k r e in (omega (arith, fit.3, roomy), omega (arith, fit.4, roomy))

row_keeps : (s : State) (c : Call) → Roomy s → (o : Option Row) → row_of s.plan (named c) ≡ o → Keeps (named c) s (by_grant s c (grant_at c (row_or o))).1
row_keeps s c roomy None e = same (named c) s
row_keeps s c roomy (Some r) e = ground_keeps s r c e (held_row s (named c) r roomy e) (ground (r.max + 1) c) refl

pub keeps : (s : State) (c : Call) → Keeps (named c) s (outcome s c).1
keeps s c =
    cond_both (ltb (length s.held) s.plan.size) (Err refusal.Memory) (row_or (row_of s.plan (named c)))
    (λ (x : Result Row Refusal). Keeps (named c) s (by_grant s c (grant_at c x)).1)
    (λ _. same (named c) s)
    (λ (t : ltb (length s.held) s.plan.size ≡ false). row_keeps s c (ltb-false (length s.held) s.plan.size t) (row_of s.plan (named c)) refl)
