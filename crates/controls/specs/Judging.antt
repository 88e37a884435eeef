-- What the refresh calls read, in the Rust's order, and whether what they work out is finite: refusals 3 and 6 of the controls.
use Rattle.std.specs.Prelude.{ℕ, ◌%◌, Bool, true, cond, ◌&&◌, List, [], ◌∷◌, eqb, Float}
use Rattle.std.specs.Float.Ieee.Scale.{finite}
use Rattle.answers.specs.declared.Refusal.TheVariants.{Domain}
use Rattle.answers.specs.declared.Buffer.TheVariants.{Bundle}
use Rattle.answers.specs.Answers.{first_of, unless_of, Answer}
use Rattle.bundle.specs.Layout.{integrator_gain_place, damping_place, source_gain_modulation_place, highpass_loading_place, directional_power_place}
use Rattle.bundle.specs.Opening.{judge_places_of}
use Rattle.response.specs.Gain.{is_single_mode_of, mode_index_of}
use Rattle.control.specs.declared.FilterRegisters.{FilterRegisters}
use Rattle.control.specs.declared.State.{State}
use Rattle.control.specs.Registers.{effective_cutoff_of}
use Rattle.controls.specs.declared.FilterControls.{FilterControls}
use Rattle.controls.specs.declared.OutputControls.{OutputControls}
use Rattle.controls.specs.declared.ControlCache.{ControlCache}
use Rattle.controls.specs.Controls.{controls_of}

-- ---- the places

-- `refresh_filter_controls`: section 0 at bins 0 to 15, section 1, section 2
abbrev pub filter_places_of : ℕ → ℕ → List ℕ
filter_places_of code resonance =
    let gain : ℕ → ℕ = λ bin. integrator_gain_place code resonance bin in
    gain 0 ∷ gain 1 ∷ gain 2 ∷ gain 3 ∷ gain 4 ∷ gain 5 ∷ gain 6 ∷ gain 7 ∷ gain 8 ∷ gain 9 ∷ gain 10 ∷ gain 11 ∷ gain 12 ∷ gain 13 ∷ gain 14 ∷ gain 15
    ∷ damping_place resonance ∷ source_gain_modulation_place code ∷ []

unfoldable pub judge_filter_of : List ℕ → ℕ → ℕ → Answer
judge_filter_of bundle code resonance = judge_places_of Bundle bundle (filter_places_of code resonance)

-- one entry, where it is read at all
abbrev pub judge_if_of : Bool → List ℕ → ℕ → Answer
judge_if_of read bundle place = judge_places_of Bundle bundle (cond read (place ∷ []) [])

-- `refresh_mode_output_gain`: in mode 4 section 4 at the effective cutoff; in modes 1, 2 and 4 section 5 at the written one
unfoldable pub judge_mode_of : List ℕ → FilterRegisters → ℕ → Answer
judge_mode_of bundle r effective =
    let m = r.mode % 8 in
    first_of (judge_if_of (eqb m 4) bundle (highpass_loading_place effective))
    (judge_if_of (is_single_mode_of m) bundle (directional_power_place (mode_index_of m) r.cutoff r.cutoff_dac_displacement_codes))

-- ---- the finite domain

abbrev pub all_finite : List Float → Bool
all_finite [] = true
all_finite (x ∷ xs) = finite x && all_finite xs

-- every number that a refresh works out
unfoldable pub finite_filter_of : FilterControls → Bool
finite_filter_of f =
    all_finite f.integrator_gain
    && all_finite f.input_drive
    && all_finite f.feedback_drive
    && all_finite
    (f.damping
    ∷ f.source_gain_modulation
    ∷ f.high_pass_low_coupling
    ∷ f.band_pass_low_coupling
    ∷ f.resonance_position
    ∷ f.resonance_feedback_scale
    ∷ f.source_modulation_resonance_scale
    ∷ f.resonance_output_gain
    ∷ [])

unfoldable pub finite_output_of : OutputControls → Bool
finite_output_of o =
    all_finite
    (o.filter_common_mode
    ∷ o.volume_fraction
    ∷ o.two_voice_volume_gain_offset
    ∷ o.combined_common_mode_gain
    ∷ o.pure_bypass_common_mode_gain
    ∷ o.scaled_filter_common_mode
    ∷ [])

unfoldable pub finite_controls_of : ControlCache → Bool
finite_controls_of c = finite_filter_of c.filter && finite c.mode_output_gain && finite_output_of c.output

-- ---- all three: at the start, and at a write of the cutoff or the routing

-- 3: every entry that they read, in the Rust's order
unfoldable pub judge_entries_of : List ℕ → State → Answer
judge_entries_of bundle s =
    let effective = effective_cutoff_of s in
    first_of (judge_filter_of bundle effective s.registers.resonance) (judge_mode_of bundle s.registers effective)

-- 6: every number that they work out is finite
unfoldable pub judge_domain_of : List ℕ → State → Answer
judge_domain_of bundle s = unless_of (finite_controls_of (controls_of bundle s)) Domain

unfoldable pub judge_controls_of : List ℕ → State → Answer
judge_controls_of bundle s = first_of (judge_entries_of bundle s) (judge_domain_of bundle s)
