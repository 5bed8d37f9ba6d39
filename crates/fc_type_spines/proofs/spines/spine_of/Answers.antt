use Rattle.std.proofs.Common.{◌≡◌, ◌++◌, ◌∷◌, ◌∙◌, [], Some, reverse, refl, sym, ap, subst, rules}
use Rattle.std.proofs.lemmas.List.{append-nil}
use Rattle.fc_model.specs.Calling.{application_ends, type_arguments}
use Rattle.fc_type_scope.proofs.Numbers.{AreTypesAt-none, shown_all-none}
use Rattle.fc_type_scope.specs.Scopes.{AreTypesAt, scope_in, shown_all_at}
use Rattle.fc_type_table.specs.TypeTables.{IsType, nodes_of, shown}
use Rattle.fc_type_spines.proofs.Heads.{AreTypesAt-snoc, arguments-turn, head-more}
use Rattle.fc_type_spines.proofs.spines.spine_of.Goals as goal

pub loop-next-init : goal.loop-next-init
loop-next-init c =
    let ns = nodes_of c.args.types.now in
    let ks = scope_in c.args.scope.now in
    let none : c.new-arguments.result ≡ [] = c.new-arguments.ensures in
    let t = type_arguments (shown c.args.types.now ks c.args.ty) in
    record {
      head_in = c.requires;
      arguments_in = subst (AreTypesAt ns ks) (sym none) (AreTypesAt-none ns ks);
      same = refl;
      all = ap (λ xs. t ++ reverse (shown_all_at ns ks xs)) none ∙ ap (λ xs. t ++ reverse xs) (shown_all-none ns ks) ∙ append-nil t;
    }

pub loop-next-preserved : goal.loop-next-preserved
loop-next-preserved c =
    let ns = nodes_of c.args.types.now in
    let ks = scope_in c.args.scope.now in
    let s = shown c.args.types.now ks c.loop-next.head in
    let t = shown c.args.types.now ks c.in-Some.next in
    let ends : Some (t, shown c.args.types.now ks c.in-Some.argument) ≡ application_ends s = search rules in
    let next_in : IsType c.args.types.now ks c.in-Some.next = search rules in
    let argument_in : IsType c.args.types.now ks c.in-Some.argument = search rules in
    let pushed : c.push.new.self ≡ c.loop-next.arguments ++ c.in-Some.argument ∷ [] = search rules in
    record {
      head_in = next_in;
      arguments_in = AreTypesAt-snoc ns ks c.loop-next.arguments c.push.new.self c.in-Some.argument c.loop-next.invariant.arguments_in argument_in pushed;
      same = sym (head-more s t (shown c.args.types.now ks c.in-Some.argument) ends) ∙ c.loop-next.invariant.same;
      all = arguments-turn ns ks c.loop-next.arguments c.push.new.self c.in-Some.argument (type_arguments (shown c.args.types.now ks c.args.ty)) s t c.loop-next.invariant.all ends pushed;
    }
