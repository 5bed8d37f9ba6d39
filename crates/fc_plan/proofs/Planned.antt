-- What stands against a set, by its three parts.
use Rattle.std.proofs.Common.{◌≡◌, [], List, Option, Some, None, option_map, refl, ap, ◌∙◌}
use Rattle.fc_syntax.specs.Tree.{Word, Module}
use Rattle.fc_syntax.specs.declared.fault.FaultKind.TheVariants as kind
use Rattle.fc_plan.specs.Modules.{names_of}
use Rattle.fc_model.specs.Planning.{PlanFault, build_order, first_importer_beyond, first_repeated, first_without, of_kind, plan_fault}

abbrev fault_by : Option Word → Option Word → Option Word → Option PlanFault
fault_by (Some w) unknown unbuilt = Some (of_kind kind.DuplicateModule w)
fault_by None (Some w) unbuilt = Some (of_kind kind.ImportUnknown w)
fault_by None None (Some w) = Some (of_kind kind.ImportCycle w)
fault_by None None None = None

abbrev nested : Option Word → Option Word → Option Word → Option PlanFault
nested repeated unknown unbuilt =
    elim repeated [
      | Some w ↦ Some (of_kind kind.DuplicateModule w)
      | None ↦
          elim unknown [
            | Some w ↦ Some (of_kind kind.ImportUnknown w)
            | None ↦ elim unbuilt [ Some w ↦ Some (of_kind kind.ImportCycle w) | None ↦ None ]
          ]
    ]

by_parts : (repeated unknown unbuilt : Option Word) → nested repeated unknown unbuilt ≡ fault_by repeated unknown unbuilt
by_parts (Some w) unknown unbuilt = refl
by_parts None (Some w) unbuilt = refl
by_parts None None (Some w) = refl
by_parts None None None = refl

abbrev repeated_in : List Module → Option Word
repeated_in ms = first_repeated [] (names_of ms)

abbrev unknown_in : List Module → Option Word
unknown_in ms = first_importer_beyond (names_of ms) ms

abbrev unbuilt_in : List Module → Option Word
unbuilt_in ms = first_without (names_of (build_order ms)) (names_of ms)

fault_is : (ms : List Module) → plan_fault ms ≡ fault_by (repeated_in ms) (unknown_in ms) (unbuilt_in ms)
fault_is ms = by_parts (repeated_in ms) (unknown_in ms) (unbuilt_in ms)

pub fault_repeated : (ms : List Module) (w : Word) → repeated_in ms ≡ Some w → plan_fault ms ≡ Some (of_kind kind.DuplicateModule w)
fault_repeated ms w h = fault_is ms ∙ ap (λ o. fault_by o (unknown_in ms) (unbuilt_in ms)) h

pub fault_unknown : (ms : List Module) (w : Word) → repeated_in ms ≡ None → unknown_in ms ≡ Some w → plan_fault ms ≡ Some (of_kind kind.ImportUnknown w)
fault_unknown ms w distinct h = fault_is ms ∙ ap (λ o. fault_by o (unknown_in ms) (unbuilt_in ms)) distinct ∙ ap (λ o. fault_by None o (unbuilt_in ms)) h

only_unbuilt : (o : Option Word) → fault_by None None o ≡ option_map (of_kind kind.ImportCycle) o
only_unbuilt (Some w) = refl
only_unbuilt None = refl

pub fault_unbuilt : (ms : List Module) → repeated_in ms ≡ None → unknown_in ms ≡ None → plan_fault ms ≡ option_map (of_kind kind.ImportCycle) (unbuilt_in ms)
fault_unbuilt ms distinct known =
    fault_is ms ∙ ap (λ o. fault_by o (unknown_in ms) (unbuilt_in ms)) distinct ∙ ap (λ o. fault_by None o (unbuilt_in ms)) known
    ∙ only_unbuilt (unbuilt_in ms)
