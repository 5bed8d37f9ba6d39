use Rattle.std.proofs.Common.{sym, ap, ◌∙◌, arith}
use Rattle.std.specs.Option.{option_map}
use Rattle.fc_model.specs.NamelessView.{nexpr_of}
use Rattle.fc_search_laws.specs.Searching.{alternatives_of}
use Rattle.fc_row_search.specs.Spots.{applying_of}
use Rattle.fc_type_table.proofs.Numbers.{Grows-further}
use Rattle.fc_row_search.proofs.Kept.{still_read}
use Rattle.fc_row_search.proofs.Told.{dead_step_found, dead_step_none}
use Rattle.fc_row_search.proofs.rows.first_dead.Goals as goal

pub returns-in-Some-clause-found : goal.returns-in-Some-clause-found
returns-in-Some-clause-found c =
    let e = nexpr_of c.args.e.now in
    sym (c.loop-alternative.invariant.found
    ∙ dead_step_found c.args.spot.now e (alternatives_of e) c.loop-alternative.alternative (applying_of c.in-Some.found) (omega (arith, c.loop-alternative-test.true, c.alternatives_of-alternative-end.ensures))
    (sym c.in_ok-found.ensures.found ∙ ap (option_map applying_of) c.in-Some.is))

pub loop-alternative-preserved : goal.loop-alternative-preserved
loop-alternative-preserved c =
    let e = nexpr_of c.args.e.now in
    record {
      found =
          c.loop-alternative.invariant.found
          ∙ dead_step_none c.args.spot.now e (alternatives_of e) c.loop-alternative.alternative (omega (arith, c.loop-alternative-test.true, c.alternatives_of-alternative-end.ensures))
          (sym c.in_ok-found.ensures.found ∙ ap (option_map applying_of) c.in_default.is);
      grows = Grows-further c.args.types.now c.loop-alternative.types c.tried.new.types c.loop-alternative.invariant.grows c.in_ok-found.ensures.grows;
    }

pub tried-requires-clause-types : goal.tried-requires-clause-types
tried-requires-clause-types c = still_read c.args.types.now c.loop-alternative.types c.args.spot.now c.loop-alternative.invariant.grows c.requires.types

pub returns-in-Some-clause-grows : goal.returns-in-Some-clause-grows
returns-in-Some-clause-grows c = Grows-further c.args.types.now c.loop-alternative.types c.tried.new.types c.loop-alternative.invariant.grows c.in_ok-found.ensures.grows

pub returns-clause-grows : goal.returns-clause-grows
returns-clause-grows c = c.loop-alternative.invariant.grows
