use Rattle.std.proofs.Common.{refl, sym, subst, ap, ◌∙◌}
use Rattle.machine.specs.States.{State}
use Rattle.machine.specs.Calls.{Answer, Put, Run, Last}
use Rattle.machine.specs.Answers.{ended_answer}
use Rattle.machine.specs.Machines.{state, opening}
use Rattle.machine.specs.Outcomes.{Outcome, outcome}
use Rattle.machine.specs.Separation.{Alike, Roomy}
use Rattle.twins.proofs.Uses.{same_answer}
use Rattle.twins.proofs.compare.latest_of_both.Goals as goal

pub returns-clause-same : goal.returns-clause-same
returns-clause-same g c =
    let k = c.args.k in
    let bytes = g.M.Memory.bytes in
    let s = state bytes c.make-a.result in
    let s1 = state bytes c.put-put.new.self in
    let s2 = state bytes c.run-other.new.self in
    let s3 = state bytes c.run-mine.new.self in
    let t = opening (g.N.Memory.bytes c.args.two) c.args.right in
    let t3 = state g.N.Memory.bytes c.run-theirs.new.self in
    let P : State → Type 0 = λ x. Roomy x in
    let Q : State → Type 0 = λ x. Alike k x t in
    let R : State → Type 0 = λ x. Outcome (Run k c.args.budget 258) x (ended_answer c.run-theirs.result) t3 in
    let is = sym c.make-a.ensures.opening in
    same_answer s t s1 s2 s3 s3 t3 t3 k
    (Put c.args.other 0 c.args.bytes.now) (Run c.args.other c.args.budget 258) (Run k c.args.budget 258) (Last k)
    _ _ _ _ _ _
    (c.make-a.ensures.apart.separated (g.N.Memory.bytes c.args.two) c.args.right)
    (subst P is c.requires.roomy) c.requires.spacious (subst Q is c.requires.alike)
    c.requires.another c.requires.another refl refl
    c.put-put.ensures c.run-other.ensures.outcome c.run-mine.ensures.outcome c.last.ensures
    (subst R c.make-b.ensures.opening c.run-theirs.ensures.outcome) c.last-2.ensures

pub returns-clause-alone : goal.returns-clause-alone
returns-clause-alone g c =
    let k = c.args.k in
    let t3 = state g.N.Memory.bytes c.run-theirs.new.self in
    let R : State → Type 0 = λ x. Outcome (Run k c.args.budget 258) x (ended_answer c.run-theirs.result) t3 in
    let ran = subst R c.make-b.ensures.opening c.run-theirs.ensures.outcome in
    sym (ap (λ (p : Answer × State). (outcome p.1 (Last k)).0) ran ∙ ap (λ (p : Answer × State). p.0) c.last-2.ensures)
