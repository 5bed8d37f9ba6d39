use Rattle.std.proofs.Common.{rules, ◌≡◌, ℕ, List, Option, Some, true, false, if◌then◌else◌, bytes_eq, is_some, option_map, string_bytes, subst}
use Rattle.std.specs.HashMap.{get_by_text}
use Rattle.std.proofs.lemmas.Map.Text.{hash_map_updates_text}
use Rattle.fc_syntax.specs.Tree.{Word}
use Rattle.fc_syntax.specs.View.{decls_of}
use Rattle.fc_model.specs.Worded.{bare_decls}
use Rattle.fc_model.specs.declared.offers.Offer.{Offer}
use Rattle.fc_model.proofs.Offered.{is_not_there, is_there, offers_behind, offers_kept}
use Rattle.fc_model.proofs.offers.put_first.Goals as goal

pub returns-then-is_some : goal.returns-then-is_some
returns-then-is_some c ns are =
    let m = c.args.m.now in
    let found : option_map (λ o. o.now) c.get.result ≡ get_by_text c.args.offers.now m.name = search rules in
    let some : is_some c.get.result ≡ true = search rules in
    offers_kept m.name m.imports m.exports m.hidden (bare_decls (decls_of m.decls)) ns (get_by_text c.args.offers.now) (is_there (λ o. o.now) c.get.result _ found some) are

pub returns : goal.returns
returns c ns are =
    let m = c.args.m.now in
    let old : Word → Option Offer = get_by_text c.args.offers.now in
    let new : Word → Option Offer = get_by_text c.insert.new.self in
    let key : string_bytes c.in_ok-name.name ≡ m.name = search rules in
    let found : option_map (λ o. o.now) c.get.result ≡ get_by_text c.args.offers.now m.name =
    subst (λ (v : List ℕ). option_map (λ o. o.now) c.get.result ≡ get_by_text c.args.offers.now v) c.as_str.ensures c.get.ensures.value in
    let none : is_some c.get.result ≡ false = search rules in
    let each : (w : Word) → new w ≡ (if bytes_eq m.name w then Some c.in_ok-offer.offer else old w) =
    subst (λ (v : List ℕ). (w : Word) → new w ≡ (if bytes_eq v w then Some c.in_ok-offer.offer else old w)) key
    (hash_map_updates_text (string_bytes c.in_ok-name.name) c.args.offers.now c.insert.new.self (Some c.in_ok-offer.offer) c.in_ok-insert.ensures.updates) in
    offers_behind m.name m.imports m.exports m.hidden (bare_decls (decls_of m.decls)) ns old new c.in_ok-offer.offer c.in_ok-offer.ensures (is_not_there (λ o. o.now) c.get.result _ found none) each are
