-- What the comparison asks of the direct calls: zeros stand beside a refusal.
use Rattle.std.specs.Prelude.{[], ◌∷◌, false, Result}
use Rattle.std.specs.Result.{result_unwrap_or}
use Rattle.answers.specs.declared.Refusal.{Refusal}
use Rattle.answers.specs.Answers.{answer_of, number_of}
use Rattle.floats.specs.Arithmetic.{f32}
use Rattle.curves.specs.declared.CurvePoint.{CurvePoint}
use Rattle.curves.specs.Sampling.{no_point}
use Rattle.integrator.specs.declared.Advanced.{Advanced}
use Rattle.mixing.specs.declared.MixingTopology.{MixingTopology}
use Rattle.response.specs.declared.TablePosition.{TablePosition}
use Rattle.probe.specs.declared.calls.PointReply.{PointReply}
use Rattle.probe.specs.declared.calls.StepReply.{StepReply}
use Rattle.probe.specs.declared.calls.RouteReply.{RouteReply}
use Rattle.probe.specs.declared.calls.BinReply.{BinReply}
use Rattle.probe.specs.Probe.{no_state}
use Rattle.probe.specs.Replies.{told_numbers_of}

abbrev pub no_advanced : Advanced
no_advanced = record {
  outputs = record { high_pass = f32 0; band_pass = f32 0; low_pass = f32 0 };
  state = no_state;
}

abbrev pub no_topology : MixingTopology
no_topology =
    let none = false ∷ false ∷ false ∷ false ∷ [] in
    record {
      filter_membership = none;
      bypass_membership = none;
      filter_input_count = 0;
      bypass_input_count = 0;
      filter_output_count = 0;
      mixer_input_count = 0;
      filter_input_reciprocal = f32 0;
      summer_input_reciprocal = f32 0;
      mixer_input_reciprocal = f32 0;
      filter_internal_mask = 0;
      bypass_internal_mask = 0;
    }

abbrev pub no_bins : TablePosition
no_bins = record { lower = 0; upper = 0; fraction = f32 0 }

abbrev pub point_reply_of : Result CurvePoint Refusal → PointReply
point_reply_of handed = record { told = told_numbers_of (answer_of handed); point = result_unwrap_or handed no_point }

-- the other three refuse with a number alone
abbrev pub step_reply_of : Result Advanced Refusal → StepReply
step_reply_of handed = record { number = number_of (answer_of handed); advanced = result_unwrap_or handed no_advanced }

abbrev pub route_reply_of : Result MixingTopology Refusal → RouteReply
route_reply_of handed = record { number = number_of (answer_of handed); topology = result_unwrap_or handed no_topology }

abbrev pub bin_reply_of : Result TablePosition Refusal → BinReply
bin_reply_of handed = record { number = number_of (answer_of handed); position = result_unwrap_or handed no_bins }
