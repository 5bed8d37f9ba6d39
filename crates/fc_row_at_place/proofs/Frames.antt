-- Where a walk stands behind what it goes past, and what it is asked there.
use Rattle.std.proofs.Common.{◌≡◌, ℕ, sym, ap, ◌∙◌, subst}
use Rattle.fc_model.specs.Typing as words
use Rattle.fc_model.specs.NamelessView.{nmodules_of}
use Rattle.fc_outlines.specs.Headers.{SameHeaders}
use Rattle.fc_definition_places.specs.Places.{HasPlaces}
use Rattle.fc_type_table.specs.TypeTables.{Grows, nodes_of}
use Rattle.fc_type_table.specs.declared.table.TypeTable.{TypeTable}
use Rattle.fc_lint_context.specs.ContextViews.{IsContextAt, context_in}
use Rattle.fc_lint_context.proofs.Growing.{stays, still}
use Rattle.fc_type_scope.proofs.ScopeKinds.{scope_grows}
use Rattle.fc_type_scope.specs.Scopes.{IsScope}
use Rattle.fc_known.specs.Around.{HasCounts, surroundings_of}
use Rattle.fc_known.specs.declared.around.Around.{Around}
use Rattle.fc_row_at_place.specs.Sites.{IsSite, decls_of, modules_at, surroundings_at}
use Rattle.fc_row_at_place.specs.declared.asked.Question.{Question}
use Rattle.fc_row_at_place.specs.declared.asked.Question.TheVariants as question
use Rattle.fc_row_at_place.specs.declared.asked.Site.{Site}

-- one site and another, for the same row among the same modules, with something more around
module _ (x y : Site) (asked : y.asked.now ≡ x.asked.now) (placed : y.places.now ≡ x.places.now) (same : modules_at y ≡ modules_at x) (a : Around) (is : y.around.now ≡ a) where
  -- The context of types goes past the same: it is made of the one before, as that of the surroundings is.
  pub behind : (old new : TypeTable) → IsSite old x → Grows old new → (past : words.Context → words.Context) → IsContextAt (nodes_of new) y.context.now
      → context_in new y.context.now ≡ past (context_in new x.context.now) → HasCounts a → (surroundings_of (decls_of x.asked.now) a).context ≡ past (surroundings_at x).context → IsSite new y
  behind old new at grows past valid view counts frame = record {
    over = record { valid = valid; modules = grows.modules ∙ at.over.modules ∙ sym same };
    counts = subst HasCounts (sym is) counts;
    scope =
        ap (λ b. (surroundings_of (decls_of y.asked.now) b).context) is
        ∙ ap (λ k. (surroundings_of (decls_of k) a).context) asked
        ∙ frame
        ∙ ap past (at.scope ∙ sym (still old new x.context.now grows at.over))
        ∙ sym view;
    headers = subst (λ ms. SameHeaders ms (decls_of y.asked.now)) (sym same) (subst (λ k. SameHeaders (modules_at x) (decls_of k)) (sym asked) at.headers);
    places = subst (λ k. HasPlaces (nmodules_of k.modules.now) y.places.now) (sym asked) (subst (HasPlaces (nmodules_of x.asked.now.modules.now)) (sym placed) at.places);
  }

-- the same site over a table that grows
pub site_grows : (old new : TypeTable) (x : Site) → Grows old new → IsSite old x → IsSite new x
site_grows old new x grows at = record {
  over = stays old new x.context.now grows at.over;
  counts = at.counts;
  scope = at.scope ∙ sym (still old new x.context.now grows at.over);
  headers = at.headers;
  places = at.places;
}

-- its type variables
pub site_scope : (old new : TypeTable) (x : Site) → Grows old new → IsSite old x → IsScope new x.context.now.scope
site_scope old new x grows at = scope_grows (nodes_of old) (nodes_of new) x.context.now.scope.kinds.now grows.nodes at.over.valid.scope

-- WEIGHTS

-- more than a place and eight calls for each of its numbers
abbrev pub joined_weight : ℕ
joined_weight = 1180591620717411303423

abbrev pub row_weight : ℕ
row_weight = 1180591620717411303424

-- what is asked of a jump is asked within what is asked of a row
abbrev pub weight : Question → ℕ
weight (question.Row r i) = row_weight
weight question.Jump = 0
