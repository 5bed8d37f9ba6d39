-- The order in which the modules of a set are built, and what may stand against it.
use Rattle.std.specs.Prelude.{ℕ, zero, suc, Bool, not, ◌&&◌, if◌then◌else◌, List, [], ◌∷◌, length, map, Option, Some, None}
use Rattle.std.specs.List.{list_all, list_any}
use Rattle.std.specs.Str.{bytes_eq}
use Rattle.fc_syntax.specs.Tree.{Word, Module}
use Rattle.fc_syntax.specs.declared.fault.Fault.{Fault}
use Rattle.fc_syntax.specs.declared.fault.FaultKind.{FaultKind}
use Rattle.fc_syntax.specs.declared.fault.FaultKind.TheVariants as kind
use Rattle.fc_syntax.specs.declared.fault.Place.{Place}
use Rattle.fc_model.specs.Headers.{imports_of, name_of}

-- a word is one of these
abbrev pub is_among : List Word → Word → Bool
is_among ws w = list_any (λ v. bytes_eq v w) ws

-- THE BUILD ORDER

-- behind the modules of these names another may be built: it is none of them, and each that it imports is one
abbrev pub is_ready : List Word → Module → Bool
is_ready built m = not (is_among built (name_of m)) && list_all (is_among built) (imports_of m)

-- the first of these modules that may be built
abbrev pub first_ready : List Word → List Module → Option Module
first_ready built [] = None
first_ready built (m ∷ ms) = if is_ready built m then Some m else first_ready built ms

-- the modules that are built one after the other, behind those of these names and as many at most, each the first that may be
abbrev pub built_behind : ℕ → List Word → List Module → List Module
built_behind zero built ms = []
built_behind (suc most) built ms = elim (first_ready built ms) [ Some m ↦ m ∷ built_behind most (name_of m ∷ built) ms | None ↦ [] ]

-- the modules of a set, each behind those that it imports: the first in the order of the set that may be built, again and again
abbrev pub build_order : List Module → List Module
build_order ms = built_behind (length ms) [] ms

-- FAULTS

-- a fault of a file, or of the whole of a module, in no declaration
abbrev pub of_file : FaultKind → List ℕ → Place → Fault
of_file k file at = record { kind = k; «module» = file; def = None; path = at }

-- a fault of the whole of a module
pub record PlanFault : Type 0 where
  pub kind : FaultKind
  pub name : Word

-- the first word that stands before it too, behind others
abbrev pub first_repeated : List Word → List Word → Option Word
first_repeated before [] = None
first_repeated before (w ∷ ws) = if is_among before w then Some w else first_repeated (w ∷ before) ws

-- the first of these modules that imports what has none of these names
abbrev pub first_importer_beyond : List Word → List Module → Option Word
first_importer_beyond names [] = None
first_importer_beyond names (m ∷ ms) = if list_all (is_among names) (imports_of m) then first_importer_beyond names ms else Some (name_of m)

-- the first of these words that is none of the others
abbrev pub first_without : List Word → List Word → Option Word
first_without built [] = None
first_without built (w ∷ ws) = if is_among built w then first_without built ws else Some w

abbrev pub of_kind : FaultKind → Word → PlanFault
of_kind k w = record { kind = k; name = w }

-- what stands against a set: two modules of one name, at the later one; else an import that is not in the set, at the module that has
-- it; else modules that import each other in a ring, at the first that is never built
abbrev pub plan_fault : List Module → Option PlanFault
plan_fault ms =
    let names = map name_of ms in
    elim (first_repeated [] names) [
      | Some w ↦ Some (of_kind kind.DuplicateModule w)
      | None ↦
          elim (first_importer_beyond names ms) [
            | Some w ↦ Some (of_kind kind.ImportUnknown w)
            | None ↦
                elim (first_without (map name_of (build_order ms)) names) [ Some w ↦ Some (of_kind kind.ImportCycle w) | None ↦ None ]
          ]
    ]
