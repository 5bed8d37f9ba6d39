-- Headers that are kept, and what is made of them once, which stays right while the table of types grows and headers are kept.
use Rattle.std.proofs.Common.{◌≡◌, List, refl, sym, ◌∙◌, subst}
use Rattle.fc_model.specs.Kinding.{decls_at}
use Rattle.fc_model.specs.Nameless.{NModule}
use Rattle.fc_outlines.specs.Headers.{SameHeaders}
use Rattle.fc_outlines.specs.Outlines.{outlined_all}
use Rattle.fc_outlines.proofs.AmongOutlines.{outlines_declare}
use Rattle.fc_outlines.proofs.HeadersAlone.{turned}
use Rattle.fc_type_table.specs.TypeTables.{Grows, modules_in, nodes_of}
use Rattle.fc_type_table.specs.declared.table.TypeTable.{TypeTable}
use Rattle.fc_lint_context.specs.DeclaredViews.{AreRead, modules_read}
use Rattle.fc_definition_places.specs.Places.{HasPlaces}
use Rattle.fc_definition_places.proofs.Staying.{outlined_places, places_stay}
use Rattle.fc_row_at_place.specs.Sites.{AreHeaders}
use Rattle.fc_row_at_place.specs.declared.asked.Headers.{Headers}
use Rattle.fc_row_at_place.proofs.HeadersKept.{headers_among, headers_grow, same_headers}
use Rattle.fc_simplify.specs.Phase.{KeepsHeaders}
use Rattle.fc_simplify.proofs.Words.{keeps_both, keeps_same}

pub headers_same : (ms : List NModule) → KeepsHeaders ms ms
headers_same ms = record {
  words = keeps_same ms;
  headers = record { alike = record { types = λ o w. refl; constructors = λ o w. refl; axioms = λ o w. refl }; values = λ n. refl };
  places = λ m w. refl;
}

pub headers_both : (a b c : List NModule) → KeepsHeaders a b → KeepsHeaders b c → KeepsHeaders a c
headers_both a b c first second = record {
  words = keeps_both a b c first.words second.words;
  headers = same_headers (decls_at a) (decls_at b) (decls_at c) first.headers second.headers;
  places = λ m w. second.places m w ∙ first.places m w;
}

-- what is kept was made of the outlines
pub headers_read : (table : TypeTable) (h : Headers) (ms : List NModule) → AreRead (nodes_of table) h.declared.now → modules_in table ≡ modules_read h.declared.now
    → modules_read h.declared.now ≡ decls_at (outlined_all ms) → HasPlaces (outlined_all ms) h.places.now → AreHeaders table h ms
headers_read table h ms read modules is placed = record {
  read = read;
  modules = modules;
  headers = subst (λ os. SameHeaders os (decls_at ms)) (sym is) (turned (decls_at ms) (decls_at (outlined_all ms)) (outlines_declare ms));
  places = places_stay (outlined_all ms) ms (λ m w. sym (outlined_places ms m w)) h.places.now placed;
}

pub headers_stay : (old new : TypeTable) (h : Headers) (ms ks : List NModule) → Grows old new → KeepsHeaders ms ks → AreHeaders old h ms → AreHeaders new h ks
headers_stay old new h ms ks grows keeps have = headers_among new h ms ks keeps.headers keeps.places (headers_grow old new h ms grows have)
