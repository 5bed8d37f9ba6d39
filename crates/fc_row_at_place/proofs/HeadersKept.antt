-- What is kept of modules stays right while the table of types grows and right sides change.
use Rattle.std.proofs.Common.{◌≡◌, ◌∙◌, List}
use Rattle.fc_syntax.specs.Tree.{Word}
use Rattle.fc_model.specs.Kinding.{Modules, decls_at}
use Rattle.fc_model.specs.Nameless.{NModule}
use Rattle.fc_outlines.specs.Headers.{SameHeaders}
use Rattle.fc_type_table.specs.TypeTables.{Grows, nodes_of}
use Rattle.fc_type_table.specs.declared.table.TypeTable.{TypeTable}
use Rattle.fc_lint_context.proofs.Declared.{AreRead-grows}
use Rattle.fc_definition_places.specs.Places.{place_in}
use Rattle.fc_definition_places.proofs.Staying.{places_stay}
use Rattle.fc_row_at_place.specs.Sites.{AreHeaders}
use Rattle.fc_row_at_place.specs.declared.asked.Headers.{Headers}

pub headers_grow : (old new : TypeTable) (h : Headers) (ns : List NModule) → Grows old new → AreHeaders old h ns → AreHeaders new h ns
headers_grow old new h ns grows are = record {
  read = AreRead-grows (nodes_of old) (nodes_of new) h.declared.now grows.nodes are.read;
  modules = grows.modules ∙ are.modules;
  headers = are.headers;
  places = are.places;
}

-- headers that are the same as others, which are the same as third ones
pub same_headers : (ms ns os : Modules) → SameHeaders ms ns → SameHeaders ns os → SameHeaders ms os
same_headers ms ns os first second = record {
  alike = record {
    types = λ o w. first.alike.types o w ∙ second.alike.types o w;
    constructors = λ o w. first.alike.constructors o w ∙ second.alike.constructors o w;
    axioms = λ o w. first.alike.axioms o w ∙ second.alike.axioms o w;
  };
  values = λ n. first.values n ∙ second.values n;
}

pub headers_among : (table : TypeTable) (h : Headers) (ns ks : List NModule) → SameHeaders (decls_at ns) (decls_at ks) → ((m w : Word) → place_in ks m w ≡ place_in ns m w) → AreHeaders table h ns
    → AreHeaders table h ks
headers_among table h ns ks same placed are = record {
  read = are.read;
  modules = are.modules;
  headers = same_headers _ (decls_at ns) (decls_at ks) are.headers same;
  places = places_stay ns ks placed h.places.now are.places;
}
