-- The parts of a compartment's run, put together.
use Rattle.std.proofs.Common.{◌≡◌, ℕ, ◌+◌, ◌⊎◌, List, length, sym, ap, ◌∙◌, arith}
use Rattle.isa.specs.Runs.{ran}
use Rattle.isa.specs.Compartments.{Ended, started, filed, ended, compartment_ran}
use Rattle.runs.proofs.Keeps.{runs_keep_lem}
use Rattle.window.specs.declared.extent.Extent.{Extent}
use Rattle.window.specs.Views.{seen, replaced, Whole, Before}
use Rattle.window.proofs.Seeing.{length_seen}
use Rattle.window.proofs.Apart.{seen_apart}

pub long_file : (bs : List ℕ) (file : Extent) → Whole bs file → file.max ≡ 2063 → length (seen bs file) ≡ 2064
long_file bs file whole long = omega (arith, length_seen bs file whole)

module _ (bs : List ℕ) (window file : Extent) (saved budget : ℕ) (rs : List ℕ) (start : rs ≡ started (seen bs file) saved) where
  -- the definition, from the registers that were taken in
  pub ended_is : compartment_ran (seen bs window) (seen bs file) saved budget ≡ ended (seen bs file) saved (ran budget (record { window = seen bs window; registers = rs }))
  unfolding compartment_ran
  ended_is = ap (λ (x : List ℕ). ended (seen bs file) saved (ran budget (record { window = seen bs window; registers = x }))) (sym start)

  module _ (whole : Whole bs window) (whole' : Whole bs file) (apart : Before window file ⊎ Before file window) (bs' : List ℕ) (ran-bytes : bs' ≡ replaced bs window (ran budget (record { window = seen bs window; registers = rs })).last.window) where
    long : length (ran budget (record { window = seen bs window; registers = rs })).last.window ≡ window.max + 1
    long = (runs_keep_lem budget (record { window = seen bs window; registers = rs })).same_window ∙ length_seen bs window whole

    -- the run has left the register file as it was
    file_same : seen bs' file ≡ seen bs file
    file_same = ap (λ (x : List ℕ). seen x file) ran-bytes ∙ seen_apart bs window file whole whole' _ long apart

    pub bytes_are : (rs' bs'' : List ℕ) → rs' ≡ (ran budget (record { window = seen bs window; registers = rs })).last.registers → bs'' ≡ replaced bs' file (filed (seen bs' file) saved rs') → bs'' ≡ replaced (replaced bs window (compartment_ran (seen bs window) (seen bs file) saved budget).window) file (compartment_ran (seen bs window) (seen bs file) saved budget).file
    bytes_are rs' bs'' r b =
        b
        ∙ ap (λ (x : List ℕ). replaced bs' file (filed x saved rs')) file_same
        ∙ ap (λ (x : List ℕ). replaced bs' file (filed (seen bs file) saved x)) r
        ∙ ap (λ (x : List ℕ). replaced x file (filed (seen bs file) saved (ran budget (record { window = seen bs window; registers = rs })).last.registers)) ran-bytes
        ∙ sym (ap (λ (x : Ended). replaced (replaced bs window x.window) file x.file) ended_is)
