-- Replacing one window leaves a window apart from it as it was.
use Rattle.std.proofs.Common.{◌≡◌, ℕ, suc, ◌+◌, ◌<◌, ◌≤◌, ◌≢◌, ◌⊎◌, List, [], ◌∷◌, length, get_or, drop, set, sym, refl, ◌∙◌, inl, inr, ⊎_elim, arith}
use lib.Seq.{sets}
use Rattle.std.proofs.lemmas.List.{ext_get_or, get_or-take, get_or-drop, get_or-set_other}
use Rattle.window.specs.declared.extent.Extent.{Extent}
use Rattle.window.specs.Views.{seen, replaced, Whole, Before}
use Rattle.window.proofs.Seeing.{length_seen, length_replaced}

slice_index_sets_other : (w bs : List ℕ) (off k : ℕ) → (k < off) ⊎ (off + length w ≤ k) → get_or (sets bs off w) k 0 ≡ get_or bs k 0
slice_index_sets_other [] bs off k h = refl
slice_index_sets_other (x ∷ w) bs off k h =
    let ne : k ≢ off = ⊎_elim (λ (l : k < off) e. omega arith) (λ (l : off + suc (length w) ≤ k) e. omega arith) h in
    let out : (k < suc off) ⊎ (suc off + length w ≤ k) =
    ⊎_elim (λ (l : k < off). inl (omega arith)) (λ (l : off + suc (length w) ≤ k). inr (omega arith)) h in
    slice_index_sets_other w (set bs off x) (suc off) k out ∙ get_or-set_other bs off k x 0 ne

slice_index-seen : (bs : List ℕ) (e : Extent) (i : ℕ) → i < e.max + 1 → get_or (seen bs e) i 0 ≡ get_or bs (e.off + i) 0
unfolding seen
slice_index-seen bs e i h = get_or-take (e.max + 1) (drop e.off bs) i 0 h ∙ get_or-drop e.off bs i 0

module _ (bs : List ℕ) (e f : Extent) (whole : Whole bs e) (whole' : Whole bs f) (w : List ℕ) (long : length w ≡ e.max + 1) (apart : Before e f ⊎ Before f e) where
  out : (i : ℕ) → i < f.max + 1 → (f.off + i < e.off) ⊎ (e.off + length w ≤ f.off + i)
  out i h = ⊎_elim (λ (b : Before e f). inr (omega arith)) (λ (b : Before f e). inl (omega arith)) apart

  other : (i : ℕ) → i < f.max + 1 → get_or (replaced bs e w) (f.off + i) 0 ≡ get_or bs (f.off + i) 0
  unfolding replaced
  other i h = slice_index_sets_other w bs e.off (f.off + i) (out i h)

  pub seen_apart : seen (replaced bs e w) f ≡ seen bs f
  seen_apart =
      let still : Whole (replaced bs e w) f = omega (arith, length_replaced bs e whole w) in
      let l = length_seen (replaced bs e w) f still in
      let m = length_seen bs f whole' in
      ext_get_or 0 (seen (replaced bs e w) f) (seen bs f) (l ∙ sym m)
      (λ i h. let k : i < f.max + 1 = omega arith in slice_index-seen (replaced bs e w) f i k ∙ other i k ∙ sym (slice_index-seen bs f i k))
