use Rattle.std.proofs.Common.{◌≡◌, ◌++◌, [], ◌∷◌, Result, Ok, Err, OnOk, refl, sym, subst}
use Rattle.fc_model.specs.NamelessView.{nbinder_of, nty_of}
use Rattle.fc_type_table.specs.Scopes.{IsTypeAt, shown_at}
use Rattle.fc_type_table.specs.TypeTables.{nodes_of}
use Rattle.fc_syntax.specs.View.{kind_of}
use Rattle.fc_type_table.specs.InScope.{own_kinds}
use Rattle.fc_model.specs.Coercing.{ends}
use Rattle.fc_type_scope.specs.Behind.{IsEntered, binder_kinds}
use Rattle.fc_type_scope.specs.EndViews.{IsEndsAt, shown_ends_at}
use Rattle.fc_type_scope.specs.declared.entering.Entered.{Entered}
use Rattle.fc_type_scope.specs.Scopes.{scope_in}
use Rattle.fc_type_table.proofs.KindsInScope.{AreNumbered-grows}
use Rattle.fc_type_scope.proofs.OneMore.{behind_entered, entered_coercion, entered_type, entered_value}
use Rattle.fc_type_scope.proofs.scope.TypeScope.enter_binder.Goals as goal

on_ok : {X E P Q : Type 0} (r : Result X E) → (P → Q) → OnOk r P → OnOk r Q
on_ok (Ok x) f p = f p
on_ok (Err e) f p = tt

on_ok_three : {X E P Q S T : Type 0} (r : Result X E) → (P → Q → S → T) → OnOk r P → OnOk r Q → OnOk r S → OnOk r T
on_ok_three (Ok x) f p q s = f p q s
on_ok_three (Err e) f p q s = tt

pub returns-in_ok-id-in-Value-clause-entered : goal.returns-in_ok-id-in-Value-clause-entered
unfolding scope_in
returns-in_ok-id-in-Value-clause-entered c =
    let old = nodes_of c.args.types.now in
    let new = nodes_of c.read.new.types in
    let ks = scope_in c.args.self.now in
    let id = c.in_ok-id-in-Value.id in
    let t = nty_of c.in-Value.t in
    let more : Entered = record { kinds = c.args.entered.now.kinds; coercions = c.args.entered.now.coercions; values = c.push.new.self } in
    on_ok c.push.result (λ pushed bs en.
    let here = behind_entered old ks _ bs c.args.entered.now en c.kinds_behind-kinds.ensures.kinds in
    let read = subst (λ js. IsTypeAt new js id.0 × (shown_at new js id.0 ≡ t)) here (c.in_ok-id-in-Value.ensures.valid, c.in_ok-id-in-Value.ensures.view) in
    subst (λ b. IsEntered new ks (bs ++ nbinder_of b ∷ []) more) (sym c.in-Value.is)
    (entered_value old new ks bs c.args.entered.now more id t en c.in_ok-id-in-Value.ensures.grows.nodes read.0 read.1 refl refl pushed)) c.push.ensures.ok

pub returns-in-OfType-clause-entered : goal.returns-in-OfType-clause-entered
returns-in-OfType-clause-entered c =
    let old = nodes_of c.args.types.now in
    let new = nodes_of c.add_kind.new.types in
    let ks = scope_in c.args.self.now in
    let e = c.args.entered.now in
    let more : Entered = record { kinds = c.add_kind.new.own; coercions = e.coercions; values = e.values } in
    let k = kind_of c.in-OfType.field-1 in
    let added = c.add_kind.ensures in
    on_ok_three c.add_kind.result (λ numbered grows kinds bs en.
    subst (λ b. IsEntered new ks (bs ++ nbinder_of b ∷ []) more) (sym c.in-OfType.is)
    (entered_type old new ks bs e more k en grows.nodes numbered (subst (λ b. own_kinds more.kinds ≡ own_kinds e.kinds ++ binder_kinds (nbinder_of b ∷ [])) c.in-OfType.is kinds) refl refl)) added.numbered added.grows added.kinds

pub returns-in_ok-ends-in-OfCo-clause-entered : goal.returns-in_ok-ends-in-OfCo-clause-entered
unfolding scope_in
returns-in_ok-ends-in-OfCo-clause-entered c =
    let old = nodes_of c.args.types.now in
    let new = nodes_of c.read_ends.new.types in
    let ks = scope_in c.args.self.now in
    let d = c.in_ok-ends-in-OfCo.ends in
    let r = c.in-OfCo.role in
    let t = nty_of c.in-OfCo.left in
    let u = nty_of c.in-OfCo.right in
    let more : Entered = record { kinds = c.args.entered.now.kinds; coercions = c.push-in-OfCo.new.self; values = c.args.entered.now.values } in
    on_ok c.push-in-OfCo.result (λ pushed bs en.
    let here = behind_entered old ks _ bs c.args.entered.now en c.kinds_behind-kinds-in-OfCo.ensures.kinds in
    let read = subst (λ js. IsEndsAt new js d × (shown_ends_at new js d ≡ ends r t u)) here (c.in_ok-ends-in-OfCo.ensures.valid, c.in_ok-ends-in-OfCo.ensures.view) in
    subst (λ b. IsEntered new ks (bs ++ nbinder_of b ∷ []) more) (sym c.in-OfCo.is)
    (entered_coercion old new ks bs c.args.entered.now more d r t u en c.in_ok-ends-in-OfCo.ensures.grows.nodes read.0 read.1 refl pushed refl)) c.push-in-OfCo.ensures.ok

pub returns-in_ok-id-in-Value-clause-numbered : goal.returns-in_ok-id-in-Value-clause-numbered
returns-in_ok-id-in-Value-clause-numbered c =
    let numbered = AreNumbered-grows (nodes_of c.args.types.now) (nodes_of c.read.new.types) c.args.entered.now.kinds c.in_ok-id-in-Value.ensures.grows.nodes c.requires.numbered in
    on_ok c.push.result (λ pushed. numbered) c.push.ensures.ok

pub returns-in_ok-ends-in-OfCo-clause-numbered : goal.returns-in_ok-ends-in-OfCo-clause-numbered
returns-in_ok-ends-in-OfCo-clause-numbered c =
    let numbered = AreNumbered-grows (nodes_of c.args.types.now) (nodes_of c.read_ends.new.types) c.args.entered.now.kinds c.in_ok-ends-in-OfCo.ensures.grows.nodes c.requires.numbered in
    on_ok c.push-in-OfCo.result (λ pushed. numbered) c.push-in-OfCo.ensures.ok
