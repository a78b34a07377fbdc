-- What a step keeps, and so a run.
use Rattle.std.proofs.Common.{◌≡◌, ℕ, zero, suc, ◌+◌, ◌^◌, ◌<◌, List, length, Some, None, Option, sym, refl, ◌∙◌, subst, arith}
use Rattle.std.proofs.ByRecursion.{All-set}
use Rattle.memory.specs.Widths.{width_bytes}
use Rattle.memory.specs.declared.width.Width.{Width}
use Rattle.memory.specs.declared.width.Width.TheVariants.{Long, Qword}
use Rattle.memory.proofs.Bounds.{all_at, all_put_at, value_at_below}
use Rattle.numbers.proofs.Bounds.{width_below}
use Rattle.isa.specs.Windows.{load, store, placed}
use Rattle.isa.specs.Opcodes.{entry_of}
use Rattle.isa.specs.Reading.{operands_at, instruction_of, decoded}
use Rattle.isa.specs.Steps.{Config, P, S, held, taking, storing, pushing, popping, passed, sources_of, performed, stepped}
use Rattle.isa.specs.Runs.{Ran, ran_on}
use Rattle.isa.specs.declared.end.End.{End}
use Rattle.isa.specs.declared.form.Form.{Form}
use Rattle.isa.specs.declared.form.Form.TheVariants.{Plain, One, Two, Three, Five, Literal, Address, Offset, Far}
use Rattle.isa.specs.declared.effect.Effect.{Effect}
use Rattle.isa.specs.declared.effect.Effect.TheVariants.{Ends, Faults, Nothing, Sets, Jumps, Stacks, Loads, Stores, Pushes, Pops, Calls, Returns}
use Rattle.runs.specs.Keeping.{Bytes, Qwords, Keeps, RunsKeep}
use Rattle.isa.proofs.Lengths.{same_stepped}
use Rattle.runs.proofs.Fits.{Fit, fit}
use Rattle.isa.proofs.Going.{ran_goes, ran_ends, ran_spent}

-- accesses to a window of bytes
all_store : (w : List ℕ) (n a v : ℕ) → Bytes w → Bytes (store w n a v)
unfolding store
all_store w n a v h = all_put_at w (placed (length w) n a) n v h

load_below : (w : List ℕ) (n : Width) (a : ℕ) → Bytes w → load w (width_bytes n) a < 2 ^ 64
unfolding load
load_below w n a h = width_below n _ (value_at_below w (placed (length w) (width_bytes n) a) (width_bytes n) h)

-- bytes and qwords, together
pub record Good (c : Config) : Type 0 where
  pub bytes : Bytes c.window
  pub qwords : Qwords c.registers

held_below : (c : Config) (k : ℕ) → Good c → held c k < 2 ^ 64
held_below c k g = all_at (λ v. v < 2 ^ 64) c.registers k (omega arith) g.qwords

good_taking : (c : Config) (k v : ℕ) → v < 2 ^ 64 → Good c → Good (taking c k v)
good_taking c k v h g = record { bytes = g.bytes; qwords = All-set (λ v. v < 2 ^ 64) c.registers k v h g.qwords }

good_storing : (c : Config) (n a v : ℕ) → Good c → Good (storing c n a v)
good_storing c n a v g = record { bytes = all_store c.window n a v g.bytes; qwords = g.qwords }

good_pushing : (c : Config) (n v : ℕ) → Good c → Good (pushing c n v)
good_pushing c n v g = good_taking (storing c n (held c S) v) S _ (omega arith) (good_storing c n (held c S) v g)

good_popping : (c : Config) (k : ℕ) (n : Width) → Good c → Good (popping c k (width_bytes n))
good_popping c k n g = good_taking (taking c S _) k _ (load_below c.window n _ g.bytes) (good_taking c S _ (omega arith) g)

good_performed : (x : Effect) (b c : Config) → Fit x → Good b → Good c → Good (performed x b c).next
good_performed (Ends e) b c f p q = q
good_performed (Faults e) b c f p q = p
good_performed Nothing b c f p q = q
good_performed (Sets k v) b c f p q = good_taking c k v f q
good_performed (Jumps a) b c f p q = good_taking c P a f q
good_performed (Stacks a) b c f p q = good_taking c S a f q
good_performed (Loads k n a) b c f p q = good_taking c k _ (load_below c.window n a q.bytes) q
good_performed (Stores n a v) b c f p q = good_storing c (width_bytes n) a v q
good_performed (Pushes n v) b c f p q = good_pushing c (width_bytes n) v q
good_performed (Pops k n) b c f p q = good_popping c k n q
good_performed (Calls a) b c f p q = good_taking (pushing c 8 (held c P)) P a f (good_pushing c 8 (held c P) q)
good_performed Returns b c f p q = good_popping c P Qword q

-- literals are qwords
literal_below : (f : Form) (w : List ℕ) (p : ℕ) → Bytes w → (operands_at f w p).literal < 2 ^ 64
literal_below Plain w p h = omega arith
literal_below One w p h = omega arith
literal_below Two w p h = omega arith
literal_below Three w p h = omega arith
literal_below Five w p h = omega arith
literal_below (Literal n) w p h = load_below w n _ h
literal_below Address w p h = load_below w Qword _ h
literal_below Offset w p h = load_below w Long _ h
literal_below Far w p h = load_below w Qword _ h

decoded_below : (w : List ℕ) (p : ℕ) → Bytes w → (decoded w p).operands.literal < 2 ^ 64
unfolding decoded instruction_of
decoded_below w p h = literal_below (entry_of (load w 1 p)).1 w p h

good_stepped : (c : Config) → Good c → Good (stepped c).next
unfolding stepped
good_stepped c g =
    let i = decoded c.window (held c P) in
    let d = passed c i in
    let q : Good d = good_taking c P _ (omega arith) g in
    good_performed _ c d
    (fit i.operation i.operands (sources_of d.registers i.operands) (decoded_below c.window (held c P) g.bytes)
    (record { r = held_below d _ q; s = held_below d _ q; t = held_below d _ q; stack = held_below d _ q }))
    g q

keeps_stepped : (c : Config) → Keeps c (stepped c).next
keeps_stepped c = record {
  same_window = (same_stepped c).window;
  same_registers = (same_stepped c).registers;
  bytes = λ b q. (good_stepped c (record { bytes = b; qwords = q })).bytes;
  qwords = λ b q. (good_stepped c (record { bytes = b; qwords = q })).qwords;
}

keeps_same : (c : Config) → Keeps c c
keeps_same c = record { same_window = refl; same_registers = refl; bytes = λ b q. b; qwords = λ b q. q }

keeps_then : (c d e : Config) → Keeps c d → Keeps d e → Keeps c e
keeps_then c d e k l = record {
  same_window = l.same_window ∙ k.same_window;
  same_registers = l.same_registers ∙ k.same_registers;
  bytes = λ b q. l.bytes (k.bytes b q) (k.qwords b q);
  qwords = λ b q. l.qwords (k.bytes b q) (k.qwords b q);
}

keeps_by : (left count : ℕ) (c : Config) (o : Option End) → (stepped c).end ≡ o → Keeps (stepped c).next (ran_on left (count + 1) (stepped c).next).last → Keeps c (ran_on (suc left) count c).last
keeps_by left count c (Some e) h more =
    let K : Ran → Type 0 = λ r. Keeps c r.last in subst K (sym (ran_ends left count c e h)) (keeps_stepped c)
keeps_by left count c None h more =
    let K : Ran → Type 0 = λ r. Keeps c r.last in
    subst K (sym (ran_goes left count c h)) (keeps_then c (stepped c).next _ (keeps_stepped c) more)

keeps_on : (left count : ℕ) (c : Config) → Keeps c (ran_on left count c).last
keeps_on zero count c = let K : Ran → Type 0 = λ r. Keeps c r.last in subst K (sym (ran_spent count c)) (keeps_same c)
keeps_on (suc left) count c = keeps_by left count c (stepped c).end refl (keeps_on left (count + 1) (stepped c).next)

pub runs_keep_lem : RunsKeep
runs_keep_lem budget c = keeps_on budget 0 c
