-- The table's entry of an opcode, and the rule that every entry keeps.
use Rattle.std.proofs.Common.{◌≡◌, ℕ, ◌+◌, ◌<◌, ◌≤◌, List, map, get_or, sym, refl, ap, ◌∙◌, subst, inl, inr}
use Rattle.std.proofs.lemmas.Bool.{cases_lt}
use Rattle.std.proofs.lemmas.List.{get_or_default, get_or-map, get_or_past}
use Rattle.isa.specs.Opcodes.{Entry, opcodes, unknown, entry_of}
use Rattle.isa.specs.Reading.{operand_bytes}
use Rattle.isa.specs.Forms.{form_of, FormsAgree, LengthsAgree}
use Rattle.isa.specs.declared.form.Form.{Form}

-- an opcode that the table has, at any default
pub entry_is : (k : ℕ) (d : Entry) → k < 94 → get_or opcodes k d ≡ entry_of k
unfolding opcodes entry_of
entry_is k d h = get_or_default opcodes k d unknown h

-- one that it lacks
pub entry_past : (k : ℕ) → 94 ≤ k → unknown ≡ entry_of k
unfolding opcodes entry_of
entry_past k h = sym (get_or_past opcodes k unknown h)

-- the table's rule, computed once over the whole table
ruled : map (λ (e : Entry). e.2) opcodes ≡ map (λ (e : Entry). 1 + operand_bytes e.1) opcodes
unfolding opcodes
ruled = refl

pub rule_known : (k : ℕ) (d : Entry) → k < 94 → (get_or opcodes k d).2 ≡ 1 + operand_bytes (get_or opcodes k d).1
unfolding opcodes
rule_known k d h =
    sym (get_or-map (λ (e : Entry). e.2) opcodes k d 0 h)
    ∙ ap (λ (ns : List ℕ). get_or ns k 0) ruled
    ∙ get_or-map (λ (e : Entry). 1 + operand_bytes e.1) opcodes k d 0 h

-- the operands of each operation, likewise
formed : map (λ (e : Entry). e.1) opcodes ≡ map (λ (e : Entry). form_of e.0) opcodes
unfolding opcodes
formed = refl

form_known : (k : ℕ) → k < 94 → (get_or opcodes k unknown).1 ≡ form_of (get_or opcodes k unknown).0
unfolding opcodes
form_known k h =
    sym (get_or-map (λ (e : Entry). e.1) opcodes k unknown (unknown.1) h)
    ∙ ap (λ (fs : List Form). get_or fs k unknown.1) formed
    ∙ get_or-map (λ (e : Entry). form_of e.0) opcodes k unknown unknown.1 h

-- what holds of the table's entries and of the one behind them holds of every opcode
of_every : (P : Entry → Type 0) → ((k : ℕ) → k < 94 → P (get_or opcodes k unknown)) → P unknown → (k : ℕ) → P (entry_of k)
of_every P known other k =
    elim (cases_lt k 94) [
      | inl l ↦ subst P (entry_is k unknown l) (known k l)
      | inr l ↦ subst P (entry_past k l) other
    ]

pub form_agrees : FormsAgree
form_agrees = of_every (λ e. e.1 ≡ form_of e.0) form_known refl

pub length_agrees : LengthsAgree
length_agrees = of_every (λ e. e.2 ≡ 1 + operand_bytes e.1) (λ k. rule_known k unknown) refl
