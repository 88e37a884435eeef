-- The substeps as `four_substeps` looks at them: of a substep's state band's number alone, which is there before low is worked out, and of its outputs high;
-- after the last one low's state too. Laws.antt of proofs/ shows that it comes to `four_substeps_of`, so a reader of a promise needs none of it.
use Rattle.std.specs.Prelude.{cond, Float, Option, Some, None}
use Rattle.std.specs.Float.Ieee.Scale.{finite}
use Rattle.floats.specs.Arithmetic.{◌⊖◌, ◌⊗◌, f32}
use Rattle.integrator.specs.declared.IntegratorState.{IntegratorState}
use Rattle.integrator.specs.declared.Coefficients.{Coefficients}
use Rattle.integrator.specs.declared.Advanced.{Advanced}
use Rattle.integrator.specs.Integrator.{advance_of, high_finite}

-- what `advance_of` makes of band and low
abbrev pub concluded_of : IntegratorState → Float → Float → Float → Float → Advanced
concluded_of s effective_input damping band low =
    record {
      outputs =
          record { high_pass = effective_input ⊖ damping ⊗ band ⊖ low; band_pass = band; low_pass = low };
      state =
          record {
            band_state = f32 0x4000_0000 ⊗ band ⊖ s.band_state;
            low_state = f32 0x4000_0000 ⊗ low ⊖ s.low_state;
            filter_source_energy = s.filter_source_energy;
          };
    }

unfoldable pub tried_of : IntegratorState → Float → Coefficients → Option Advanced
tried_of s driven_input k =
    let a = advance_of s driven_input k in
    cond (finite a.state.band_state) (cond (high_finite a) (Some a) None) None

unfoldable pub tried_after_of : Option Advanced → Float → Coefficients → Option Advanced
tried_after_of (Some a) driven_input k = tried_of a.state driven_input k
tried_after_of None driven_input k = None

unfoldable pub with_finite_low_of : Option Advanced → Option Advanced
with_finite_low_of (Some a) = cond (finite a.state.low_state) (Some a) None
with_finite_low_of None = None
