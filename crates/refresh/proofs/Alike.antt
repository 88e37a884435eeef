-- Of the registers, what their controls refuse and the mode's gain follow from cutoff, displacement, resonance and mode alone. Assumes nothing.
use Prim.Native.Nat.{ℕ, ◌<◌}
use mathlib.Core.Path.{◌≡◌, refl, sym, ap, ◌∙◌}
use mathlib.Core.Bool.{Bool, true, false, ◌&&◌}
use mathlib.Core.List.{List}
use lib.Dec.{eqb, lit≤}
use mir.Syntax.{w16}
use mir.Val.{SFits, of_z, to_z}
use mir.ValLaws.{to_z-of_z}
use borrow.Author.Tests.{eqb-true}
use Rattle.floats.proofs.Laws.{both}
use Rattle.control.specs.declared.FilterRegisters.{FilterRegisters}
use Rattle.control.specs.Registers.{of_registers}
use Rattle.controls.specs.Controls.{directional_of, refresh_mode_output_gain_of}
use Rattle.controls.specs.Judging.{judge_mode_of}
use Rattle.finite.proofs.Finite.{output_finite}
use Rattle.refresh.specs.Refresh.{judge_gain_of, judged_of}
use Rattle.refresh.proofs.Parts.{judged_by_parts}

-- within their types
pub record Fit (r : FilterRegisters) : Type 0 where
  pub cutoff : r.cutoff < 65536
  pub displacement : SFits w16 r.cutoff_dac_displacement_codes
  pub resonance : r.resonance < 256
  pub volume : r.volume < 256

-- the four are the same, the displacement by its 16 bits
abbrev pub Alike : FilterRegisters → FilterRegisters → Bool
Alike a b =
    eqb a.cutoff b.cutoff
    && eqb (of_z w16 a.cutoff_dac_displacement_codes) (of_z w16 b.cutoff_dac_displacement_codes)
    && eqb a.resonance b.resonance
    && eqb a.mode b.mode

-- with the others at 0
abbrev bare : FilterRegisters → FilterRegisters
bare r =
    record {
      cutoff = r.cutoff;
      cutoff_dac_displacement_codes = r.cutoff_dac_displacement_codes;
      cutoff_write_base = 0;
      cutoff_low_pending = false;
      resonance = r.resonance;
      routing = 0;
      mode = r.mode;
      volume = 0;
    }

module _ (bundle : List ℕ) where
  judged_bare : (r : FilterRegisters) → Fit r → judged_of bundle (of_registers r) ≡ judged_of bundle (of_registers (bare r))
  unfolding judge_gain_of judge_mode_of refresh_mode_output_gain_of directional_of
  judged_bare r f =
      rw (
        judged_by_parts bundle (of_registers r) f.resonance,
        judged_by_parts bundle (of_registers (bare r)) f.resonance,
        output_finite r f.volume f.cutoff,
        output_finite (bare r) (lit≤ tt) f.cutoff,
      ) refl

  pub judged_alike : (a b : FilterRegisters) → Fit a → Fit b → Alike a b ≡ true → judged_of bundle (of_registers a) ≡ judged_of bundle (of_registers b)
  judged_alike a b f g h =
      let x = a.cutoff_dac_displacement_codes in
      let y = b.cutoff_dac_displacement_codes in
      let p = both (eqb a.cutoff b.cutoff && eqb (of_z w16 x) (of_z w16 y) && eqb a.resonance b.resonance) (eqb a.mode b.mode) h in
      let q = both (eqb a.cutoff b.cutoff && eqb (of_z w16 x) (of_z w16 y)) (eqb a.resonance b.resonance) p.0 in
      let r = both (eqb a.cutoff b.cutoff) (eqb (of_z w16 x) (of_z w16 y)) q.0 in
      let bits = ap (to_z w16) (eqb-true (of_z w16 x) (of_z w16 y) r.1) in
      let displacement : x ≡ y = sym (to_z-of_z w16 x f.displacement) ∙ bits ∙ to_z-of_z w16 y g.displacement in
      judged_bare a f
      ∙ rw (eqb-true a.cutoff b.cutoff r.0, displacement, eqb-true a.resonance b.resonance q.1, eqb-true a.mode b.mode p.1) refl
      ∙ sym (judged_bare b g)
