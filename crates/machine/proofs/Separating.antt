-- A machine straight from its making keeps its compartments apart.
use Rattle.std.proofs.Common.{◌≡◌, ℕ, ◌+◌, Bool, true, false, cond, eqb, List, [], ◌∷◌, ◌++◌, length, get_or, take, drop, take_at, drop_at, Some, None, Option, refl, sym, ap, ◌∙◌, subst, arith}
use Rattle.std.proofs.lemmas.Bool.{eqb-true, eqb-false}
use Rattle.plan.specs.declared.plan.Plan.{Plan}
use Rattle.plan.specs.declared.row.Row.{Row}
use Rattle.machine.specs.States.{State, row_of}
use Rattle.machine.specs.Calls.{Call, Answer, named}
use Rattle.machine.specs.Outcomes.{Outcome, part, outcome}
use Rattle.machine.specs.Machines.{opening}
use Rattle.machine.specs.Separation.{row_length, row_saved, row_bytes, Roomy, Event, Session, calls, answers, naming, Separated, OnlyChanges, Confined, KeptApart}
use Rattle.machine.proofs.Pieces.{length_part}
use Rattle.machine.proofs.Keeping.{held_row, keeps}
use Rattle.machine.proofs.Cells.{Cell, cell, cell_by, alone, Good, good_after, own, other}

-- the calls of one compartment, by itself
abbrev alone_answers : Option Cell → List Call → List Answer
alone_answers x [] = []
alone_answers x (c ∷ cs) = (alone c x).0 ∷ alone_answers (alone c x).1 cs

abbrev alone_end : Option Cell → List Call → Option Cell
alone_end x [] = x
alone_end x (c ∷ cs) = alone_end (alone c x).1 cs

abbrev Follows : ℕ → State → List Event → State → Type 0
Follows k s es t = (answers es ≡ alone_answers (cell s k) (calls es)) × (cell t k ≡ alone_end (cell s k) (calls es))

step : (k : ℕ) (s m t : State) (e : Event) (es : List Event) → Good s → Outcome e.call s e.answer m → Follows k m es t → (b : Bool) → eqb (named e.call) k ≡ b → Follows k s (cond b (e ∷ es) es) t
step k s m t e es g o later true b =
    let c = e.call in
    let P : ℕ → Type 0 = λ j. ((outcome s c).0 ≡ (alone c (cell s j)).0) × (cell (outcome s c).1 j ≡ (alone c (cell s j)).1) in
    let mine = subst P (eqb-true (named c) k b) (own s c g) in
    let first : e.answer ≡ (alone c (cell s k)).0 = sym (ap (λ (z : Answer × State). z.0) o) ∙ mine.0 in
    let then : cell m k ≡ (alone c (cell s k)).1 = sym (ap (λ (z : Answer × State). cell z.1 k) o) ∙ mine.1 in (
      λ i. first i ∷ (later.0 ∙ ap (λ (x : Option Cell). alone_answers x (calls es)) then) i,
      later.1 ∙ ap (λ (x : Option Cell). alone_end x (calls es)) then,
    )
step k s m t e es g o later false b =
    let c = e.call in
    let then : cell m k ≡ cell s k =
    sym (ap (λ (z : Answer × State). cell z.1 k) o) ∙ other s c k (λ q. eqb-false (named c) k b (sym q))
    in (
      later.0 ∙ ap (λ (x : Option Cell). alone_answers x (calls es)) then,
      later.1 ∙ ap (λ (x : Option Cell). alone_end x (calls es)) then,
    )

after : (s m : State) (c : Call) (a : Answer) → Good s → Outcome c s a m → Good m
after s m c a g o =
    let P : State → Type 0 = λ x. Good x in subst P (ap (λ (z : Answer × State). z.1) o) (good_after s c g)

follows : (k : ℕ) (es : List Event) (s t : State) → Good s → Session s es t → Follows k s (naming k es) t
follows k [] s t g h = (refl, ap (λ (x : State). cell x k) (sym h))
follows k (e ∷ es) s t g h =
    step k s h.0 t e (naming k es) g h.1.0 (follows k es h.0 t (after s h.0 e.call e.answer g h.1.0) h.1.1) (eqb (named e.call) k) refl

-- compartments that are alike, with the same run on record, are the same by themselves
alike_rows : (k : ℕ) (s t : State) → Roomy s → Roomy t → get_or s.latest k None ≡ get_or t.latest k None → (o p : Option Row) → row_of s.plan k ≡ o → row_of t.plan k ≡ p → row_length o ≡ row_length p → row_saved o ≡ row_saved p → row_bytes s o ≡ row_bytes t p → cell_by s k o ≡ cell_by t k p
alike_rows k s t g h l None None e f long saved bytes = refl
alike_rows k s t g h l None (Some r) e f long saved bytes = absurd (omega arith)
alike_rows k s t g h l (Some q) None e f long saved bytes = absurd (omega arith)
alike_rows k s t g h l (Some q) (Some r) e f long saved bytes =
    let ws = part s.held q.off (q.max + 1) in
    let wt = part t.held r.off (r.max + 1) in
    let fs = part s.held q.file 2064 in
    let ft = part t.held r.file 2064 in
    let lq : length ws ≡ q.max + 1 = length_part s.held q.off (q.max + 1) (held_row s k q g e).0 in
    let lr : length wt ≡ q.max + 1 = length_part t.held r.off (r.max + 1) (held_row t k r h f).0 ∙ sym long in
    let w : ws ≡ wt = sym (take_at ws fs (q.max + 1) lq) ∙ ap (λ (x : List ℕ). take (q.max + 1) x) bytes ∙ take_at wt ft (q.max + 1) lr in
    let f : fs ≡ ft = sym (drop_at ws fs (q.max + 1) lq) ∙ ap (λ (x : List ℕ). drop (q.max + 1) x) bytes ∙ drop_at wt ft (q.max + 1) lr in
    λ i. Some (record { long = long i; saved = saved i; window = w i; file = f i; latest = l i })

abbrev cell_bytes : Option Cell → List ℕ
cell_bytes None = []
cell_bytes (Some x) = x.window ++ x.file

bytes_rows : (k : ℕ) (s : State) (o : Option Row) → row_bytes s o ≡ cell_bytes (cell_by s k o)
bytes_rows k s None = refl
bytes_rows k s (Some r) = refl

separated : (held : List ℕ) (p : Plan) (held' : List ℕ) (p' : Plan) → Separated (opening held p) (opening held' p')
separated held p held' p' k es fs s' t' hs ht rs rt like same =
    let s = opening held p in
    let t = opening held' p' in
    let start : cell s k ≡ cell t k = alike_rows k s t rs rt refl (row_of p k) (row_of p' k) refl refl like.same_length like.same_saved like.same_bytes in
    let one = follows k es s s' (record { roomy = rs; sixteen = refl }) hs in
    let two = follows k fs t t' (record { roomy = rt; sixteen = refl }) ht in (
      one.0 ∙ (λ i. alone_answers (start i) (same i)) ∙ sym two.0,
      bytes_rows k s' (row_of s'.plan k)
          ∙ ap cell_bytes (one.1 ∙ (λ i. alone_end (start i) (same i)) ∙ sym two.1)
          ∙ sym (bytes_rows k t' (row_of t'.plan k)),
    )

confined : (s : State) → Confined s
confined s es m n c b h o =
    let P : State → Type 0 = λ x. OnlyChanges (named c) m x in
    subst P (ap (λ (z : Answer × State). z.1) o) (keeps m c).only

-- every list of calls has its events
some_session : (cs : List Call) (s : State) → (es : List Event) × ((t : State) × ((calls es ≡ cs) × Session s es t))
some_session [] s = ([], (s, (refl, refl)))
some_session (c ∷ cs) s =
    let rest = some_session cs (outcome s c).1 in
    (record { call = c; answer = (outcome s c).0 } ∷ rest.0, (rest.1.0, (ap (λ (x : List Call). c ∷ x) rest.1.1.0, ((outcome s c).1, (refl, rest.1.1.1)))))

pub kept_apart : (s : State) (held : List ℕ) (p : Plan) → s ≡ opening held p → KeptApart s
kept_apart s held p is =
    let P : State → Type 0 = λ x. KeptApart x in
    subst P (sym is) (record {
      separated = separated held p;
      confined = confined (opening held p);
      answered = λ cs. some_session cs (opening held p);
    })
