-- Where a walk stands, as the surroundings that rows read.
use Rattle.std.specs.Prelude.{◌≡◌, List, Option}
use Rattle.fc_model.specs.Kinding.{Modules, decls_at}
use Rattle.fc_model.specs.Nameless.{NExpr, NModule}
use Rattle.fc_model.specs.NamelessView.{nmodules_of}
use Rattle.fc_outlines.specs.Headers.{SameHeaders}
use Rattle.fc_type_table.specs.TypeTables.{modules_in, nodes_of}
use Rattle.fc_type_table.specs.declared.table.TypeTable.{TypeTable}
use Rattle.fc_lint_context.specs.ContextViews.{IsContextOver, context_in, modules_of_context}
use Rattle.fc_lint_context.specs.DeclaredViews.{AreRead, modules_read}
use Rattle.fc_definition_places.specs.Places.{HasPlaces}
use Rattle.fc_rows.specs.Surroundings.{Surroundings}
use Rattle.fc_known.specs.Around.{HasCounts, surroundings_of}
use Rattle.fc_row_at_place.specs.Rows.{answer}
use Rattle.fc_row_at_place.specs.declared.asked.Asked.{Asked}
use Rattle.fc_row_at_place.specs.declared.asked.Headers.{Headers}
use Rattle.fc_row_at_place.specs.declared.asked.Site.{Site}

-- the numbers of the types of what is declared are of this table, and these modules have the headers of those that were read and define words where those do, whatever their right sides
pub record AreHeaders (table : TypeTable) (h : Headers) (ns : List NModule) : Type 0 where
  pub read : AreRead (nodes_of table) h.declared.now
  pub modules : modules_in table ≡ modules_read h.declared.now
  pub headers : SameHeaders (modules_read h.declared.now) (decls_at ns)
  pub places : HasPlaces ns h.places.now

-- what the modules declare whose right sides are known, and what is asked among them
abbrev pub decls_of : Asked → Modules
decls_of k = decls_at (nmodules_of k.modules.now)

abbrev pub row_of : Asked → Surroundings → NExpr → Option NExpr
row_of k = answer (decls_of k) k.question

-- the modules of which types are read
abbrev pub modules_at : Site → Modules
modules_at x = modules_of_context x.context.now

-- what stands around, among the right sides that are known
abbrev pub surroundings_at : Site → Surroundings
surroundings_at x = surroundings_of (decls_of x.asked.now) x.around.now

-- what is asked
abbrev pub row_for : Site → Surroundings → NExpr → Option NExpr
row_for x = row_of x.asked.now

-- The numbers of types are of this table, the numbers of binders are right, both say the same of what is in scope, and the headers are those of the modules whose right sides are known, as
-- is where these define words.
pub record IsSite (table : TypeTable) (x : Site) : Type 0 where
  pub over : IsContextOver table x.context.now
  pub counts : HasCounts x.around.now
  pub scope : (surroundings_at x).context ≡ context_in table x.context.now
  pub headers : SameHeaders (modules_at x) (decls_of x.asked.now)
  pub places : HasPlaces (nmodules_of x.asked.now.modules.now) x.places.now
