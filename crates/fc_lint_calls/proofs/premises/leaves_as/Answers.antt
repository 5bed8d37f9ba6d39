use Rattle.std.proofs.Common.{◌≡◌, ◌++◌, ◌∙◌, true, false, length, sym, ap, rules}
use Rattle.fc_model.specs.Kinding.{same_type}
use Rattle.fc_model.specs.Substituting.{has_innermost, raised_type}
use Rattle.fc_type_scope.proofs.Past.{IsTypeAt-past, shown_at-past}
use Rattle.fc_type_scope.specs.Scopes.{scope_in}
use Rattle.fc_type_table.specs.TypeTables.{nodes_of, shown}
use Rattle.fc_lint_calls.proofs.premises.leaves_as.Goals as goal

pub returns-then-not-same : goal.returns-then-not-same
returns-then-not-same c = λ bs inner_in.
    let ns = nodes_of c.args.types.now in
    let ks = scope_in c.args.scope.now in
    let u = shown c.args.types.now (bs ++ ks) c.args.inner in
    let none : c.in_ok-escapes.field-0 ≡ false = search rules in
    let apart : c.same.result ≡ false = search rules in
    let stays : has_innermost (length bs) 0 u ≡ false = sym (c.in_ok-escapes.ensures bs inner_in) ∙ none in
    let past : shown c.args.types.now (bs ++ ks) c.args.outer ≡ raised_type (length bs) (shown c.args.types.now ks c.args.outer) = shown_at-past ns bs ks c.args.outer.0 c.requires.outer_in in
    let same : c.same.result ≡ same_type u (shown c.args.types.now (bs ++ ks) c.args.outer) = c.same.ensures (bs ++ ks) inner_in (IsTypeAt-past ns bs ks c.args.outer.0 c.requires.outer_in) in
    let differs : same_type u (raised_type (length bs) (shown c.args.types.now ks c.args.outer)) ≡ false = ap (λ x. same_type u x) (sym past) ∙ sym same ∙ apart in
    rw (stays, differs) (search rules)

pub returns : goal.returns
returns c = λ bs inner_in.
    let ns = nodes_of c.args.types.now in
    let ks = scope_in c.args.scope.now in
    let u = shown c.args.types.now (bs ++ ks) c.args.inner in
    let none : c.in_ok-escapes.field-0 ≡ false = search rules in
    let alike : c.same.result ≡ true = search rules in
    let stays : has_innermost (length bs) 0 u ≡ false = sym (c.in_ok-escapes.ensures bs inner_in) ∙ none in
    let past : shown c.args.types.now (bs ++ ks) c.args.outer ≡ raised_type (length bs) (shown c.args.types.now ks c.args.outer) = shown_at-past ns bs ks c.args.outer.0 c.requires.outer_in in
    let same : c.same.result ≡ same_type u (shown c.args.types.now (bs ++ ks) c.args.outer) = c.same.ensures (bs ++ ks) inner_in (IsTypeAt-past ns bs ks c.args.outer.0 c.requires.outer_in) in
    let agrees : same_type u (raised_type (length bs) (shown c.args.types.now ks c.args.outer)) ≡ true = ap (λ x. same_type u x) (sym past) ∙ sym same ∙ alike in
    rw (stays, agrees)
