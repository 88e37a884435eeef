use Rattle.mixing.proofs.Laws.{line_told, filter_digit, bypass_digit, output_digit, mixer_digit}
use Rattle.mixing.proofs.line.Goals as goal

pub digit-requires : goal.digit-requires
digit-requires c = filter_digit c.args.routing c.args.mode c.update-t.ensures

pub digit-requires-2 : goal.digit-requires-2
digit-requires-2 c = bypass_digit c.args.routing c.args.mode c.update-t.ensures

pub digit-requires-3 : goal.digit-requires-3
digit-requires-3 c = output_digit c.args.routing c.args.mode c.update-t.ensures

pub digit-requires-4 : goal.digit-requires-4
digit-requires-4 c = mixer_digit c.args.routing c.args.mode c.update-t.ensures

pub returns : goal.returns
returns c =
    line_told c.args.routing c.args.mode c.update-t.ensures c.flag.ensures c.flag-2.ensures c.flag-3.ensures c.flag-4.ensures
    c.flag-5.ensures c.flag-6.ensures c.flag-7.ensures c.flag-8.ensures c.digit.ensures c.digit-2.ensures c.digit-3.ensures c.digit-4.ensures
