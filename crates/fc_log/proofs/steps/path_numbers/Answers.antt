use Rattle.std.proofs.Common.{rules, tests, length, map, ap, sym, ◌∙◌}
use Rattle.std.proofs.lemmas.Iterator.Consumers.{YieldsList-turn, YieldsList-end}
use Rattle.std.proofs.lemmas.Iterator.Splits.{YieldsList-from_slice_split}
use Rattle.fc_syntax.specs.Tokens.{is_dot}
use Rattle.std.proofs.lemmas.Simd.{map-map}
use Rattle.std.specs.List.{slice_split}
use Rattle.std.specs.Str.Parse.{digits_value}
use Rattle.fc_log.specs.Grammar.{is_part_number}
use Rattle.fc_log.proofs.Paths.{each_at}
use Rattle.fc_log.proofs.steps.path_numbers.Goals as goal

pub part_number-requires : goal.part_number-requires
part_number-requires c =
    let t = YieldsList-turn (YieldsList-from_slice_split _ is_dot c.args.path.now (cc) (cc) (cc) (λ x b q k. search (rules, tests))) c.loop-part.yielded _ c.loop-part.yielded_by _ _ c.in-Some.part c.in-Some.is c.next.ensures.steps in
    ap is_part_number t.1 ∙ each_at is_part_number (slice_split is_dot c.args.path.now) (length c.loop-part.yielded) c.in-Some.part.now t.0 c.requires

pub returns : goal.returns
returns c =
    let t = YieldsList-end (YieldsList-from_slice_split _ is_dot c.args.path.now (cc) (cc) (cc) (λ x b q k. search (rules, tests))) c.loop-part.yielded _ c.loop-part.yielded_by _ _ c.in-None.is c.next.ensures.steps in
    c.loop-part.invariant ∙ (sym (map-map (digits_value 10) (λ w. w.now) c.loop-part.yielded) ∙ ap (map (digits_value 10)) t.0)
