-- The invariant: the lines of the first k pairs are written, and three of their counts are summed up.
use mathlib.Core.Path.{refl, ap}
use native.Mathlib.Omega.{arith}
use borrow.Author.Rules.{rules}
use Rattle.text.proofs.Laws.{grown_none}
use Rattle.mixing.specs.Topology.{bypass_count_of, topology_of}
use Rattle.mixing.proofs.Laws.{filter_digit, bypass_digit, output_digit}
use Rattle.routing_sheet.specs.Sheet.{first_pairs, lines_of}
use Rattle.routing_sheet.proofs.Laws.{filter_of_pair, output_of_pair, sums_none, sums_next, line_grew, sheet_grew}
use Rattle.routing_sheet.proofs.push_sheet.Goals as goal

pub loop-k-init : goal.loop-k-init
unfolding first_pairs lines_of
loop-k-init c = (omega arith, omega arith, refl, grown_none _, sums_none _, sums_none _, sums_none _)

pub overflow_add-filter : goal.overflow_add-filter
overflow_add-filter c =
    let z = c.loop-k in
    omega (arith, z.invariant.4.1, filter_digit _ _ c.update-topology.ensures)

pub overflow_add-bypass : goal.overflow_add-bypass
overflow_add-bypass c =
    let z = c.loop-k in
    omega (arith, z.invariant.5.1, bypass_digit _ _ c.update-topology.ensures)

pub overflow_add-output : goal.overflow_add-output
overflow_add-output c =
    let z = c.loop-k in
    omega (arith, z.invariant.6.1, output_digit _ _ c.update-topology.ensures)

pub loop-k-preserved : goal.loop-k-preserved
unfolding topology_of
loop-k-preserved c =
    let z = c.loop-k in (
      omega arith,
      c.push_pair_line-end.ensures.prefix_len.0,
      search rules,
      line_grew _ _ z.k _ z.invariant.3 (c.push_pair_line-end.ensures.value, c.push_pair_line-end.ensures.out_after),
      sums_next filter_of_pair z.k z.invariant.4 (ap (λ t. t.filter_input_count) c.update-topology.ensures) (filter_digit _ _ c.update-topology.ensures),
      sums_next bypass_count_of z.k z.invariant.5 (ap (λ t. t.bypass_input_count) c.update-topology.ensures) (bypass_digit _ _ c.update-topology.ensures),
      sums_next output_of_pair z.k z.invariant.6 (ap (λ t. t.filter_output_count) c.update-topology.ensures) (output_digit _ _ c.update-topology.ensures),
    )

pub returns-clause-prefix_len : goal.returns-clause-prefix_len
returns-clause-prefix_len c = c.push_total_line.ensures.prefix_len

pub returns-clause-value : goal.returns-clause-value
returns-clause-value c =
    let z = c.loop-k in
    (sheet_grew _ _ z.k _ z.invariant.3 (omega arith) z.invariant.4 z.invariant.5 z.invariant.6 (c.push_total_line.ensures.value, c.push_total_line.ensures.out_after)).0

pub returns-clause-out_after : goal.returns-clause-out_after
returns-clause-out_after c =
    let z = c.loop-k in
    (sheet_grew _ _ z.k _ z.invariant.3 (omega arith) z.invariant.4 z.invariant.5 z.invariant.6 (c.push_total_line.ensures.value, c.push_total_line.ensures.out_after)).1
