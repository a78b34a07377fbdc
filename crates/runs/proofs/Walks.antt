-- Runs and chains of instructions.
use Rattle.std.proofs.Common.{◌≡◌, ℕ, zero, suc, ◌+◌, ◌-◌, ◌<◌, ◌⊎◌, Some, None, Option, sym, refl, ap, ◌∙◌, subst, inl, inr, ⊎_elim, arith}
use Rattle.isa.specs.Steps.{Config, Stepped, stepped}
use Rattle.isa.specs.Runs.{Ran, ran_on, ran}
use Rattle.isa.specs.declared.end.End.{End}
use Rattle.isa.specs.declared.end.End.TheVariants.{Budget}
use Rattle.runs.specs.Chains.{Goes, Leads, AllChainsDecide, LargerAgree, CountWithin}
use Rattle.isa.proofs.Going.{ran_goes, ran_ends, ran_spent}
use Rattle.runs.proofs.Ends.{ends_leave_lem}

-- a chain at the start of a run
pub ran_chain : (n left count : ℕ) (c d : Config) → Goes n c d → ran_on (n + left) count c ≡ ran_on left (count + n) d
ran_chain zero left count c d g =
    let e : zero + left ≡ left = omega arith in
    let f : count ≡ count + zero = omega arith in
    rw (e, ← f, g)
ran_chain (suc n) left count c d g =
    let e : suc n + left ≡ suc (n + left) = omega arith in
    let f : count + 1 + n ≡ count + suc n = omega arith in
    rw e (ran_goes (n + left) count c g.0 ∙ ran_chain n left (count + 1) (stepped c).next d g.1 ∙ ap (λ (k : ℕ). ran_on left k d) f)

-- how a run of what is left goes on from c
record Spends (left count : ℕ) (c : Config) (r : Ran) : Type 0 where
  end : r.end ≡ Budget
  sum : r.count ≡ count + left
  chain : Goes left c r.last

record Stops (left count : ℕ) (c : Config) (r : Ran) : Type 0 where
  steps : ℕ
  fewer : steps < left
  sum : r.count ≡ count + steps + 1
  leads : Leads c steps r.end r.last

-- no instruction ends a run for want of budget
pub not_spent : (c : Config) → (stepped c).end ≡ Some Budget → ⊥
not_spent c h = ends_leave_lem c Budget h

-- a run ends in one of the two ways: by what the next instruction does, and by how the run goes on from there
abbrev Ways : ℕ → ℕ → Config → Ran → Type 0
Ways left count c r = Spends left count c r ⊎ Stops left count c r

ways_by : (left count : ℕ) (c : Config) (o : Option End) → (stepped c).end ≡ o → Ways left (count + 1) (stepped c).next (ran_on left (count + 1) (stepped c).next) → Ways (suc left) count c (ran_on (suc left) count c)
ways_by left count c (Some e) h more =
    subst (Ways (suc left) count c) (sym (ran_ends left count c e h))
    (inr (record {
      steps = 0;
      fewer = omega arith;
      sum = omega arith;
      leads = record { before = c; chain = refl; ending = ap (λ (o : Option End). record { end = o; next = (stepped c).next }) h };
    }))
ways_by left count c None h more =
    subst (Ways (suc left) count c) (sym (ran_goes left count c h))
    (⊎_elim
    (λ (s : Spends left (count + 1) (stepped c).next (ran_on left (count + 1) (stepped c).next)).
    inl (record { end = s.end; sum = omega (arith, s.sum); chain = (h, s.chain) }))
    (λ (s : Stops left (count + 1) (stepped c).next (ran_on left (count + 1) (stepped c).next)).
    inr (record {
      steps = suc s.steps;
      fewer = omega (arith, s.fewer);
      sum = omega (arith, s.sum);
      leads = record { before = s.leads.before; chain = (h, s.leads.chain); ending = s.leads.ending };
    }))
    more)

ways : (left count : ℕ) (c : Config) → Ways left count c (ran_on left count c)
ways zero count c =
    subst (Ways zero count c) (sym (ran_spent count c)) (inl (record { end = refl; sum = omega arith; chain = refl }))
ways (suc left) count c = ways_by left count c (stepped c).end refl (ways left (count + 1) (stepped c).next)

-- an instruction that ends the run does so by another end than the budget's
stopped : (c d : Config) (n : ℕ) (e : End) (f : Config) → e ≡ Budget → Leads c n e f → ⊥
stopped c d n e f h l = not_spent l.before (ap (λ (s : Stepped). s.end) l.ending ∙ ap Some h)

pub chains_decide_lem : AllChainsDecide
chains_decide_lem budget c = record {
  spent = λ d g.
      let e : budget + 0 ≡ budget = omega arith in
      ap (λ (k : ℕ). ran_on k 0 c) (sym e) ∙ ran_chain budget 0 0 c d g ∙ ran_spent (0 + budget) d
      ∙ (let z : 0 + budget ≡ budget = omega arith in rw z);
  spent_only = λ h. ⊎_elim
      (λ (s : Spends budget 0 c (ran budget c)). let z : (ran budget c).count ≡ budget = omega (arith, s.sum) in (s.chain, z))
      (λ (s : Stops budget 0 c (ran budget c)). absurd (stopped c c s.steps (ran budget c).end (ran budget c).last h s.leads))
      (ways budget 0 c);
  ended = λ n e f l s.
      let z : budget ≡ n + suc (budget - n - 1) = omega arith in
      let end : (stepped s.before).end ≡ Some e = ap (λ (t : Stepped). t.end) s.ending in
      let next : (stepped s.before).next ≡ f = ap (λ (t : Stepped). t.next) s.ending in
      let k : 0 + n ≡ n = omega arith in
      ap (λ (k : ℕ). ran_on k 0 c) z ∙ ran_chain n (suc (budget - n - 1)) 0 c s.before s.chain
      ∙ ran_ends (budget - n - 1) (0 + n) s.before e end
      ∙ rw (next, k);
  ended_only = λ h. ⊎_elim
      (λ (s : Spends budget 0 c (ran budget c)). absurd (h s.end))
      (λ (s : Stops budget 0 c (ran budget c)). (s.steps, s.fewer, omega arith, s.leads))
      (ways budget 0 c);
}

pub larger_agree : LargerAgree
larger_agree budget larger c h l =
    let s = (chains_decide_lem budget c).ended_only h in
    (chains_decide_lem larger c).ended s.0 (ran budget c).end (ran budget c).last (omega arith) s.3
    ∙ (let k : s.0 + 1 ≡ (ran budget c).count = sym s.2 in rw k)

pub count_within : CountWithin
count_within budget c = ⊎_elim
    (λ (s : Spends budget 0 c (ran budget c)). omega (arith, s.sum))
    (λ (s : Stops budget 0 c (ran budget c)). omega (arith, s.sum, s.fewer))
    (ways budget 0 c)
