-- The promise, as one uses it: of four calls on one machine the first two name another compartment, and the other two are those
-- on the second machine.
use Rattle.std.proofs.Common.{◌≡◌, ◌≢◌, ℕ, Bool, cond, List, [], ◌∷◌, refl, sym, ap, ◌∙◌}
use Rattle.std.proofs.lemmas.Bool.{eq-eqb, ne_eqb}
use Rattle.machine.specs.States.{State}
use Rattle.machine.specs.Calls.{Call, Answer, Done, named}
use Rattle.machine.specs.Outcomes.{Outcome}
use Rattle.machine.specs.Separation.{Event, Separated, Alike, Roomy, naming, calls, answers}

kept : (k : ℕ) (e : Event) (es : List Event) → named e.call ≡ k → naming k (e ∷ es) ≡ e ∷ naming k es
kept k e es q = ap (λ (b : Bool). cond b (e ∷ naming k es) (naming k es)) (eq-eqb (named e.call) k q)

left_out : (k : ℕ) (e : Event) (es : List Event) → named e.call ≢ k → naming k (e ∷ es) ≡ naming k es
left_out k e es q = ap (λ (b : Bool). cond b (e ∷ naming k es) (naming k es)) (ne_eqb (named e.call) k q)

second : List Answer → Answer
second (a ∷ (b ∷ rest)) = b
second (a ∷ []) = Done
second [] = Done

module _ (k : ℕ) (e f : Event) (e_named : named e.call ≡ k) (f_named : named f.call ≡ k) where
  both : naming k (e ∷ (f ∷ [])) ≡ e ∷ (f ∷ [])
  both = kept k e (f ∷ []) e_named ∙ ap (λ (es : List Event). e ∷ es) (kept k f [] f_named)

pub same_answer : (s t s1 s2 s3 s4 t3 t4 : State) (k : ℕ) (c1 c2 c3 c4 : Call) (a1 a2 a3 a4 b3 b4 : Answer) → Separated s t → Roomy s → Roomy t → Alike k s t → named c1 ≢ k → named c2 ≢ k → named c3 ≡ k → named c4 ≡ k → Outcome c1 s a1 s1 → Outcome c2 s1 a2 s2 → Outcome c3 s2 a3 s3 → Outcome c4 s3 a4 s4 → Outcome c3 t b3 t3 → Outcome c4 t3 b4 t4 → a4 ≡ b4
unfolding second
same_answer s t s1 s2 s3 s4 t3 t4 k c1 c2 c3 c4 a1 a2 a3 a4 b3 b4 sep rs rt like n1 n2 n3 n4 o1 o2 o3 o4 p3 p4 =
    let e1 : Event = record { call = c1; answer = a1 } in
    let e2 : Event = record { call = c2; answer = a2 } in
    let e3 : Event = record { call = c3; answer = a3 } in
    let e4 : Event = record { call = c4; answer = a4 } in
    let f3 : Event = record { call = c3; answer = b3 } in
    let f4 : Event = record { call = c4; answer = b4 } in
    let es : List Event = e1 ∷ (e2 ∷ (e3 ∷ (e4 ∷ []))) in
    let fs : List Event = f3 ∷ (f4 ∷ []) in
    let mine : naming k es ≡ e3 ∷ (e4 ∷ []) =
    left_out k e1 (e2 ∷ (e3 ∷ (e4 ∷ []))) n1 ∙ left_out k e2 (e3 ∷ (e4 ∷ [])) n2 ∙ both k e3 e4 n3 n4
    in
    let theirs : naming k fs ≡ fs = both k f3 f4 n3 n4 in
    let all =
    sep k es fs s4 t4 (s1, (o1, (s2, (o2, (s3, (o3, (s4, (o4, refl)))))))) (t3, (p3, (t4, (p4, refl)))) rs rt like
    (ap (λ (x : List Event). calls x) mine ∙ sym (ap (λ (x : List Event). calls x) theirs))
    in
    ap second (sym (ap (λ (x : List Event). answers x) mine) ∙ all.0 ∙ ap (λ (x : List Event). answers x) theirs)
