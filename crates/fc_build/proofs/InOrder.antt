-- Modules that can be built one after the other, and the steps of those that are made.
use Rattle.std.proofs.Common.{◌≡◌, ◌∙◌, ℕ, All, List, [], ◌∷◌, ◌++◌, arith, length, map, refl, sym, ap, subst, append_assoc, append-nil}
use Rattle.std.proofs.lemmas.List.{map-append}
use Rattle.std.proofs.lemmas.List.Elements.{All-cons, All-head, All-tail}
use Rattle.fc_formed.specs.FormedTrees.{IsFormedModule}
use Rattle.fc_headers.specs.NamelessHeaders.{form_written_among}
use Rattle.fc_log.specs.Shapes.{phases_of_build}
use Rattle.fc_log.specs.declared.log.Entry.TheVariants as entry
use Rattle.fc_log.specs.declared.log.Log.{Log}
use Rattle.fc_model.specs.Grammar.{Interface}
use Rattle.fc_model.specs.Nameless.{NModule}
use Rattle.fc_model.specs.NamelessView.{nmodule_of, nmodules_of}
use Rattle.fc_product.specs.Interfaces.{told_in}
use Rattle.fc_product.specs.Products.{CanBeBuilt, IsMade}
use Rattle.fc_product.proofs.Replayed.{marks_formed, marks_replay, marks_shaped}
use Rattle.fc_reaching.specs.Numbering.{word_of}
use Rattle.fc_replayed_sets.specs.Faithful.{CanBeWritten}
use Rattle.fc_replayed_sets.specs.Replays.{AreReplays, IsReplay, TellsAnything, no_replays, one_replay}
use Rattle.fc_replayed_sets.proofs.FormedLeft.{has_module_name}
use Rattle.fc_rows.specs.ResultLimits.{IsWithinLimits}
use Rattle.fc_rows.specs.Telling.{reached_by_imports, told_module}
use Rattle.fc_rows_formed.proofs.HeadersFormed.{told_is_formed}
use Rattle.fc_syntax.specs.Tree.{Word, Module}
use Rattle.fc_syntax.specs.declared.module.Module as RustModule
use Rattle.fc_syntax.specs.declared.ty.Ref.{Ref}
use Rattle.fc_words.specs.Asking.{Order}
use Rattle.fc_build.specs.Delivering.{step_in, steps_in}
use Rattle.fc_build.specs.Product.{Step}
use Rattle.fc_build.specs.SetSteps.{AreStepsMade, CanBeBuiltInOrder, none_made, one_made, step_made}
use Rattle.fc_build.specs.declared.product.Step as rust

abbrev Form : Type 0
Form = RustModule.Module ℕ Ref

-- MODULES TO WHICH NOTHING IS DONE

abbrev unchanged_log : NModule → Log
unchanged_log n = record { «module» = word_of n; entries = map entry.Mark phases_of_build }

unchanged_replay : (order : List Word) (before : List NModule) (n : NModule) → IsFormedModule n → IsReplay order before (unchanged_log n) n (form_written_among order n)
unchanged_replay order before n formed = record {
  formed = record { named = has_module_name n formed; entries = marks_formed phases_of_build };
  of_module = refl;
  shaped = marks_shaped phases_of_build;
  left = n;
  replays = marks_replay (reached_by_imports n before) phases_of_build n;
  headed = refl;
}

unchanged_replays : (order : List Word) (before ns : List NModule) → All IsFormedModule ns → AreReplays order TellsAnything before (map unchanged_log ns) ns (map (form_written_among order) ns)
unchanged_replays order before [] formed = no_replays
unchanged_replays order before (n ∷ ns) formed =
    one_replay [] (unchanged_replay order before n (All-head IsFormedModule n ns formed)) tt
    (unchanged_replays order (told_module [] (form_written_among order n) ∷ before) ns (All-tail IsFormedModule n ns formed))

-- THE NEXT MODULE

-- what is left of it can be written, since those behind it could stay as they are
next_is_writable : (order : List Word) (before : List NModule) (n : NModule) (ns : List NModule) → CanBeBuiltInOrder order before (n ∷ ns) → (l : Log) (k : NModule) → IsReplay order before l n k → CanBeWritten k
next_is_writable order before n ns can l k is =
    let told = told_module [] k ∷ before in
    All-head CanBeWritten k (map (form_written_among order) ns)
    (can.writable (l ∷ map unchanged_log ns) (k ∷ map (form_written_among order) ns) (one_replay [] is tt (unchanged_replays order told ns (All-tail IsFormedModule n ns can.formed))))

pub next_can_be_built : (order : List Word) (before : List NModule) (n : NModule) (ns : List NModule) → CanBeBuiltInOrder order before (n ∷ ns) → CanBeBuilt order before n
next_can_be_built order before n ns can = record {
  formed = All-cons IsFormedModule n before (All-head IsFormedModule n ns can.formed) can.told;
  within = All-head IsWithinLimits n ns can.within;
  writable = next_is_writable order before n ns can;
}

-- those behind it can be built behind what is told of it
rest_can_be_built : (grow : ℕ) (order : List Word) (before : List NModule) (n : NModule) (ns : List NModule) (m : Module) (i : Interface) (l : Log) → CanBeBuiltInOrder order before (n ∷ ns)
    → (is : IsMade grow order before n m i l) → CanBeBuiltInOrder order (told_module (told_in i) is.form ∷ before) ns
rest_can_be_built grow order before n ns m i l can is = record {
  formed = All-tail IsFormedModule n ns can.formed;
  within = All-tail IsWithinLimits n ns can.within;
  told = All-cons IsFormedModule (told_module (told_in i) is.form) before (told_is_formed (told_in i) is.form (next_is_writable order before n ns can l is.form is.replay).formed) can.told;
  writable = λ ls ks are. All-tail CanBeWritten is.form ks (can.writable (l ∷ ls) (is.form ∷ ks) (one_replay (told_in i) is.replay tt are));
}

-- ONE AFTER THE OTHER

-- The modules that are left can be built; and whatever is made of them, with the steps so far, is made of all.
pub record AreUnderWay (asked : Order) (grow : ℕ) (order : List Word) (before rest : List NModule) (all : List NModule) (so_far : List Step) : Type 0 where
  pub can : CanBeBuiltInOrder order before rest
  pub made : (more : List Step) → AreStepsMade asked grow order before rest more → AreStepsMade asked grow order [] all (so_far ++ more)

pub under_way : (asked : Order) (grow : ℕ) (order : List Word) (before : List Form) (all : List NModule) (steps : List rust.Step) → CanBeBuiltInOrder order [] all → before ≡ [] → steps ≡ []
    → AreUnderWay asked grow order (nmodules_of before) all all (steps_in steps)
under_way asked grow order before all steps can none empty =
    subst (λ bs. AreUnderWay asked grow order (nmodules_of bs) all all (steps_in steps)) (sym none)
    (subst (λ ss. AreUnderWay asked grow order [] all all (steps_in ss)) (sym empty) (record { can = can; made = λ more are. are }))

-- a module more
pub one_more : (asked : Order) (grow : ℕ) (order : List Word) (before further : List Form) (n told : Form) (rest : List NModule) (all : List NModule) (steps more : List rust.Step) (s : rust.Step)
    (m : Module) (i : Interface) (l : Log) → AreUnderWay asked grow order (nmodules_of before) (nmodule_of n ∷ rest) all (steps_in steps) → (is : IsMade grow order (nmodules_of before) (nmodule_of n) m i l)
    → nmodule_of told ≡ told_module (told_in i) is.form → step_in s ≡ step_made asked m i l → further ≡ told ∷ before → more ≡ steps ++ s ∷ []
    → AreUnderWay asked grow order (nmodules_of further) rest all (steps_in more)
one_more asked grow order before further n told rest all steps more s m i l so_far is tells made put pushed =
    let behind : nmodules_of further ≡ told_module (told_in i) is.form ∷ nmodules_of before = ap nmodules_of put ∙ ap (λ k. k ∷ nmodules_of before) tells in
    let longer : steps_in more ≡ steps_in steps ++ step_in s ∷ [] = ap steps_in pushed ∙ map-append step_in steps (s ∷ []) in
    subst (λ bs. AreUnderWay asked grow order bs rest all (steps_in more)) (sym behind)
    (subst (AreUnderWay asked grow order (told_module (told_in i) is.form ∷ nmodules_of before) rest all) (sym longer) (record {
      can = rest_can_be_built grow order (nmodules_of before) (nmodule_of n) rest m i l so_far.can is;
      made = λ others are. subst (AreStepsMade asked grow order [] all) (sym (append_assoc (steps_in steps) (step_in s ∷ []) others)) (so_far.made (step_in s ∷ others) (one_made is made are));
    }))

-- when none is left
pub all_done : (asked : Order) (grow : ℕ) (order : List Word) (before : List NModule) (rest : List Form) (all : List NModule) (steps : List Step) → length rest ≡ 0
    → AreUnderWay asked grow order before (nmodules_of rest) all steps → AreStepsMade asked grow order [] all steps
all_done asked grow order before [] all steps none so_far = subst (AreStepsMade asked grow order [] all) (append-nil steps) (so_far.made [] none_made)
all_done asked grow order before (f ∷ fs) all steps none so_far = absurd (omega (arith, none))
