use Rattle.std.proofs.Common.{◌∙◌, sym, ap, subst}
use Rattle.std.specs.Option.{option_map}
use Rattle.std.proofs.lemmas.Result.{IfOk-weaker}
use Rattle.fc_model.specs.NamelessView.{nbinders_of, nexpr_of}
use Rattle.fc_rows.specs.Surroundings.{known_of, moved_known}
use Rattle.fc_subst.specs.Replacements.{renaming_of}
use Rattle.fc_known.specs.Around.{HasCounts, surroundings_of}
use Rattle.fc_known.specs.Told.{right_side, told}
use Rattle.fc_known.proofs.Behind.{alternative_named, inside_named, named_from_outside}
use Rattle.fc_known.proofs.Moved.{known_moves, moved_none, past_group, past_points}
use Rattle.fc_known.proofs.knowing.+known_name.Goals as goal

pub returns-then-is_name : goal.returns-then-is_name
returns-then-is_name t c ms tells =
    inside_named c.in-Alternative.branch (surroundings_of ms c.in-Alternative.outer.now) (subst HasCounts c.in-Alternative.is c.requires).0 c.args.name.now (sym c.is_name.ensures ∙ c.if-is_name.true)
    ∙ ap (λ f. (surroundings_of ms f).names c.args.name.now) (sym c.in-Alternative.is)

pub returns-in-Some : goal.returns-in-Some
returns-in-Some t c ms tells =
    sym (moved_none known_moves (known_of (nexpr_of c.in-Some.e.now)))
    ∙ ap (λ o. right_side (option_map (λ e. nexpr_of e.now) o)) (sym c.in-Some.is)
    ∙ tells
    ∙ ap (λ f. (surroundings_of ms f).names c.args.name.now) (sym c.in-Outside.is)

pub returns-in_ok-known_name-in-Binders : goal.returns-in_ok-known_name-in-Binders
returns-in_ok-known_name-in-Binders t c ms tells = IfOk-weaker c.past.result _ _ (λ f h.
    h
    ∙ named_from_outside c.in-Binders.own (nbinders_of c.in-Binders.field-0.now) (surroundings_of ms c.in-Binders.outer.now) c.args.name.now (told c.in_ok-known_name-in-Binders.field-0)
    (subst HasCounts c.in-Binders.is c.requires).0 (c.in_ok-known_name-in-Binders.ensures ms tells)
    ∙ ap (λ f. (surroundings_of ms f).names c.args.name.now) (sym c.in-Binders.is)) c.past.ensures

pub returns-in_ok-known_name-in-Group : goal.returns-in_ok-known_name-in-Group
returns-in_ok-known_name-in-Group t c ms tells = IfOk-weaker c.past-in-Group.result _ _ (λ f h.
    h
    ∙ ap (λ p. moved_known (renaming_of p) (told c.in_ok-known_name-in-Group.field-0)) c.values.ensures
    ∙ past_group known_moves c.in-Group.bindings.now c.in_ok-count-in-Group.count (told c.in_ok-known_name-in-Group.field-0) _
    c.in_ok-count-in-Group.ensures (c.in_ok-known_name-in-Group.ensures ms tells)
    ∙ ap (λ f. (surroundings_of ms f).names c.args.name.now) (sym c.in-Group.is)) c.past-in-Group.ensures

pub returns-in_ok-known_name-in-Joins : goal.returns-in_ok-known_name-in-Joins
returns-in_ok-known_name-in-Joins t c ms tells = IfOk-weaker c.past-in-Joins.result _ _ (λ f h.
    h
    ∙ past_points known_moves c.in-Joins.points.now c.in_ok-joins-in-Joins.joins (told c.in_ok-known_name-in-Joins.field-0) _
    c.in_ok-joins-in-Joins.ensures (c.in_ok-known_name-in-Joins.ensures ms tells)
    ∙ ap (λ f. (surroundings_of ms f).names c.args.name.now) (sym c.in-Joins.is)) c.past-in-Joins.ensures

pub returns-in_ok-known_name-in-Alternative : goal.returns-in_ok-known_name-in-Alternative
returns-in_ok-known_name-in-Alternative t c ms tells = IfOk-weaker c.past-in-Alternative.result _ _ (λ f h.
    h
    ∙ alternative_named c.in-Alternative.branch (surroundings_of ms c.in-Alternative.outer.now) (subst HasCounts c.in-Alternative.is c.requires).0 c.args.name.now c.in_ok-values-in-Alternative.values
    (told c.in_ok-known_name-in-Alternative.field-0) (sym c.is_name.ensures ∙ c.if-is_name.false) c.in_ok-values-in-Alternative.ensures (c.in_ok-known_name-in-Alternative.ensures ms tells)
    ∙ ap (λ f. (surroundings_of ms f).names c.args.name.now) (sym c.in-Alternative.is)) c.past-in-Alternative.ensures
