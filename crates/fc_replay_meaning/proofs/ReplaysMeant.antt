-- The steps of a log keep what programs show, one after the other.
use Rattle.std.proofs.Common.{◌≡◌, All, Bool, true, false, if◌then◌else◌, List, [], ◌∷◌, Some, refl, sym, subst}
use Rattle.std.proofs.Math.Path.{fun_ext}
use Rattle.std.proofs.lemmas.List.Elements.{All-cons, All-head, All-tail}
use Rattle.std.specs.Str.{bytes_eq}
use Rattle.fc_syntax.specs.Tree.{Word}
use Rattle.fc_syntax.specs.declared.ty.Name.{Name}
use Rattle.fc_log.specs.declared.log.Entry.{Entry}
use Rattle.fc_log.specs.declared.log.Step.{Step}
use Rattle.fc_model.specs.Erasure.{erased, no_scope}
use Rattle.fc_model.specs.Headers.{ndecls_in}
use Rattle.fc_model.specs.Kinding.{same_word}
use Rattle.fc_model.specs.Nameless.{NExpr, NDecl, NData, NNew, NFamily, NAxiom, NDef, NWrap, NModule, NModuleOf}
use Rattle.fc_model.specs.Programs.{Mentions, right_side}
use Rattle.fc_model.specs.Stepping.{Program}
use Rattle.fc_model.specs.Terms.{Term}
use Rattle.fc_model.proofs.Sameness.{bytes_eq_eq}
use Rattle.fc_reaching.specs.Numbering.{word_of}
use Rattle.fc_meaning.proofs.HeldDeclarations.{modules_are_held}
use Rattle.fc_meaning.proofs.WrittenExpressions.{AreDeclsWritten, IsDeclWritten}
use Rattle.fc_counted.specs.CountingLaws.{SeesSame}
use Rattle.fc_rows.specs.Dropping.{DropsDead, is_kept}
use Rattle.fc_rows.specs.Replaying.{Replays, at_end, past_mark, past_step, Rewrites, at_a_place, of_the_module}
use Rattle.fc_rows.specs.Rewriting.{without_definitions}
use Rattle.fc_row_types.proofs.Made.{none_some, some_some}
use Rattle.fc_rows_written.proofs.RowsWritten.{rows_keep_written}
use Rattle.fc_kept_meaning.specs.FairImports.{IsToldTruly, TellDeclarations, TellsTruth, TellTruth}
use Rattle.fc_kept_meaning.specs.MeaningKept.{HoldsModule, IsDead, MayBeAsked, OthersKeepOut, takes_dead, with_module}
use Rattle.fc_kept_meaning.proofs.ChangesKeepMeaning.{linted_rights, with_module_sorted}
use Rattle.fc_kept_meaning.proofs.DeadDefinitions.{dead_keeps_meaning}
use Rattle.fc_kept_meaning.proofs.ShownFurther.{placed_again, placed_holds}
use Rattle.fc_replay_types.specs.ReplaysKept.{Stands, with_declarations}
use Rattle.fc_replay_types.proofs.NeededClosed.{Defines, defines_here, wraps_here, defines_later, mention_kept_names, offered_kept}
use Rattle.fc_replay_types.proofs.StepsKept.{replayed, step_stands}
use Rattle.fc_row_meaning.specs.RowMeaningLaws.{MeansTheSame}
use Rattle.fc_row_meaning.proofs.RowsMeant.{rows_mean_the_same}
use Rattle.fc_replay_meaning.specs.ReplaysMeaning.{ReplaysKeepMeaning}
use Rattle.fc_replay_meaning.proofs.ErasedMentions.{erased_mentions}

-- ONE AFTER THE OTHER

-- a program that holds a module is itself with the module in its place
module_in_place : (n : NModule) (P : Program) → HoldsModule P n → P ≡ with_module n P
module_in_place (NModuleOf m imports exports hidden ds) P holds = fun_ext (λ x. either x (same_word x.module (Some m)) refl)
  where
    either : (x : Name) (b : Bool) → same_word x.module (Some m) ≡ b → P x ≡ (if b then right_side ds x.text else P x)
    either x true own = holds x own
    either x false own = refl

means_itself : (xs : List NModule) (n : NModule) → MeansTheSame xs n n
means_itself xs n P sp tells holds out t st asked = subst (λ Q. SeesSame P Q t) (module_in_place n P holds) (λ o. (λ h. h, λ h. h))

-- modules of other names are told as before
module _ (k : NModule) (P : Program) where
  told_there : (m w : Word) (e : NExpr) → bytes_eq m (word_of k) ≡ false → IsToldTruly P m w e → IsToldTruly (with_module k P) m w e
  told_there m w e other told is = rw other (told is)

  declarations_there : (m : Word) (ds : List NDecl) → bytes_eq m (word_of k) ≡ false → TellDeclarations P m ds → TellDeclarations (with_module k P) m ds
  declarations_there m [] other tells = tt
  declarations_there m (NDef w t e ∷ ds) other tells = (told_there m w e other tells.0, declarations_there m ds other tells.1)
  declarations_there m (NWrap w t e ∷ ds) other tells = (told_there m w e other tells.0, declarations_there m ds other tells.1)
  declarations_there m (NData w ps cs ∷ ds) other tells = declarations_there m ds other tells
  declarations_there m (NNew w ps t con ∷ ds) other tells = declarations_there m ds other tells
  declarations_there m (NFamily w ps j ∷ ds) other tells = declarations_there m ds other tells
  declarations_there m (NAxiom w ps t u ∷ ds) other tells = declarations_there m ds other tells

  pub module_there : (x : NModule) → bytes_eq (word_of x) (word_of k) ≡ false → TellsTruth P x → TellsTruth (with_module k P) x
  module_there (NModuleOf m imports exports hidden ds) other tells = declarations_there m ds other tells

  modules_there : (xs : List NModule) → All (λ x. bytes_eq (word_of x) (word_of k) ≡ false) xs → TellTruth P xs → TellTruth (with_module k P) xs
  modules_there [] others tells = tt
  modules_there (x ∷ xs) others tells = (
    module_there x (All-head (λ x. bytes_eq (word_of x) (word_of k) ≡ false) x xs others) tells.0,
    modules_there xs (All-tail (λ x. bytes_eq (word_of x) (word_of k) ≡ false) x xs others) tells.1,
  )

-- a module, what it means, and what that means in turn, under one header
module _ (m : Word) (imports exports hidden : List Word) (ds es fs : List NDecl) (xs : List NModule) (stands : Stands xs (NModuleOf m imports exports hidden es))
    (written : AreDeclsWritten es) where
  abbrev first : NModule
  first = NModuleOf m imports exports hidden ds

  abbrev second : NModule
  second = NModuleOf m imports exports hidden es

  abbrev third : NModule
  third = NModuleOf m imports exports hidden fs

  module _ (P : Program) where
    out_of_second : OthersKeepOut P first → OthersKeepOut (with_module second P) second
    out_of_second out x t other found = tested (same_word x.module (Some m)) refl found
      where
        tested : (b : Bool) → same_word x.module (Some m) ≡ b → (if b then right_side es x.text else P x) ≡ Some t → Mentions (MayBeAsked first) t
        tested true own h = absurd (other own)
        tested false own h = out x t other h

  means_further : MeansTheSame xs first second → MeansTheSame xs second third → MeansTheSame xs first third
  means_further one two P sp tells holds out t st asked =
      let held = modules_are_held (second ∷ xs) stands.lints.hold in
      let a = one P sp tells holds out t st asked in
      let b = two (with_module second P) (with_module_sorted second P sp (linted_rights xs second held written)) (modules_there second P xs stands.others tells) (placed_holds second P) (out_of_second P out) t st asked in
      let c : SeesSame (with_module second P) (with_module third P) t = subst (λ Q. SeesSame (with_module second P) Q t) (placed_again second third refl P) b in
      λ o. (λ h. (c o).0 ((a o).0 h), λ h. (a o).1 ((c o).1 h))

-- DEFINITIONS THAT GO

-- the right side of a word is the erasure of one that it has
abbrev ErasesOne : List NDecl → Word → Term → Type 0
ErasesOne ds w t = (e : NExpr) × Defines ds w e × (erased no_scope e ≡ t)

one_later : (d : NDecl) (ds : List NDecl) (w : Word) (t : Term) → ErasesOne ds w t → ErasesOne (d ∷ ds) w t
one_later d ds w t r = (r.0, defines_later r.1, r.2)

one_here : (n : Word) (e : NExpr) (d : NDecl) (ds : List NDecl) (w : Word) (t : Term) → Defines (d ∷ ds) n e → (right_side ds w ≡ Some t → ErasesOne ds w t) → (b : Bool) → bytes_eq n w ≡ b
    → (if b then Some (erased no_scope e) else right_side ds w) ≡ Some t → ErasesOne (d ∷ ds) w t
one_here n e d ds w t here later true same h = (e, subst (λ v. Defines (d ∷ ds) v e) (bytes_eq_eq n w same) here, some_some h)
one_here n e d ds w t here later false same h = one_later d ds w t (later h)

erased_right : (ds : List NDecl) (w : Word) (t : Term) → right_side ds w ≡ Some t → ErasesOne ds w t
erased_right [] w t h = none_some h
erased_right (NData n ps cs ∷ ds) w t h = one_later (NData n ps cs) ds w t (erased_right ds w t h)
erased_right (NNew n ps u con ∷ ds) w t h = one_later (NNew n ps u con) ds w t (erased_right ds w t h)
erased_right (NFamily n ps k ∷ ds) w t h = one_later (NFamily n ps k) ds w t (erased_right ds w t h)
erased_right (NAxiom n ps u v ∷ ds) w t h = one_later (NAxiom n ps u v) ds w t (erased_right ds w t h)
erased_right (NDef n u e ∷ ds) w t h = one_here n e (NDef n u e) ds w t defines_here (erased_right ds w t) (bytes_eq n w) refl h
erased_right (NWrap n u e ∷ ds) w t h = one_here n e (NWrap n u e) ds w t wraps_here (erased_right ds w t) (bytes_eq n w) refl h

one_written : (b : Bool) (d : NDecl) (ds : List NDecl) → IsDeclWritten d → AreDeclsWritten ds → AreDeclsWritten (if b then d ∷ ds else ds)
one_written true d ds w rest = (w, rest)
one_written false d ds w rest = rest

pub fewer_written : (keep : Word → Bool) (ds : List NDecl) → AreDeclsWritten ds → AreDeclsWritten (without_definitions keep ds)
fewer_written keep [] w = tt
fewer_written keep (NData n ps cs ∷ ds) w = (tt, fewer_written keep ds w.1)
fewer_written keep (NNew n ps t con ∷ ds) w = (tt, fewer_written keep ds w.1)
fewer_written keep (NFamily n ps k ∷ ds) w = (tt, fewer_written keep ds w.1)
fewer_written keep (NAxiom n ps t u ∷ ds) w = (tt, fewer_written keep ds w.1)
fewer_written keep (NDef n t e ∷ ds) w = one_written (keep n) (NDef n t e) (without_definitions keep ds) w.0 (fewer_written keep ds w.1)
fewer_written keep (NWrap n t e ∷ ds) w = one_written (keep n) (NWrap n t e) (without_definitions keep ds) w.0 (fewer_written keep ds w.1)

-- STEPS

record Meant (xs : List NModule) (n k : NModule) : Type 0 where
  means : MeansTheSame xs n k
  written : AreDeclsWritten (ndecls_in k)

dropped_meant : (xs : List NModule) (n k : NModule) → Stands xs n → AreDeclsWritten (ndecls_in n) → Stands xs k → DropsDead n k → Meant xs n k
dropped_meant xs (NModuleOf m imports exports hidden ds) k stands w left drops =
    let n = NModuleOf m imports exports hidden ds in
    let new = NModuleOf m imports exports hidden (without_definitions drops.keep ds) in
    let dead : IsDead n drops.keep = record {
      offered = λ v o. offered_kept m imports exports hidden ds xs stands drops.keep drops.needed v o;
      closed = λ v t kept found. let r = erased_right ds v t found in
          subst (Mentions (λ x. is_kept drops.keep (word_of n) x ≡ true)) r.2
          (erased_mentions (λ x. is_kept drops.keep (word_of n) x ≡ true) no_scope r.0 (mention_kept_names m imports exports hidden ds xs stands drops.keep drops.needed v r.0 r.1 kept));
    } in
    let written = fewer_written drops.keep ds w in
    let there : Stands xs new = subst (Stands xs) drops.left left in
    let means = dead_keeps_meaning xs n new (takes_dead drops.keep dead) (modules_are_held (n ∷ xs) stands.lints.hold) (modules_are_held (new ∷ xs) there.lints.hold) w written in
    subst (Meant xs n) (sym drops.left) (record { means = means; written = written })

step_meant : {xs : List NModule} {s : Step} {n k : NModule} → Stands xs n → All (λ x. AreDeclsWritten (ndecls_in x)) (n ∷ xs) → Stands xs k → Rewrites xs s n k → Meant xs n k
step_meant {xs = xs} {n = n} {k = k} stands w left (at_a_place r v p h within) =
    record { means = rows_mean_the_same r xs v p n k stands.lints h w; written = rows_keep_written xs r v p n k w h }
step_meant {xs = xs} {n = n} {k = k} stands w left (of_the_module drops) = dropped_meant xs n k stands (All-head (λ x. AreDeclsWritten (ndecls_in x)) n xs w) left drops

-- LOGS

-- further, whatever the modules are, under one header
meant_further : (n k l : NModule) (xs : List NModule) → Stands xs k → AreDeclsWritten (ndecls_in k) → k ≡ with_declarations (ndecls_in k) n → l ≡ with_declarations (ndecls_in l) k
    → MeansTheSame xs n k → MeansTheSame xs k l → MeansTheSame xs n l
meant_further (NModuleOf m imports exports hidden ds) k l xs stands written h g one two = by k h l g stands written one two
  where
    n : NModule
    n = NModuleOf m imports exports hidden ds

    by : (k : NModule) → k ≡ with_declarations (ndecls_in k) n → (l : NModule) → l ≡ with_declarations (ndecls_in l) k → Stands xs k → AreDeclsWritten (ndecls_in k)
        → MeansTheSame xs n k → MeansTheSame xs k l → MeansTheSame xs n l
    by k h = subst (λ x. (l : NModule) → l ≡ with_declarations (ndecls_in l) x → Stands xs x → AreDeclsWritten (ndecls_in x) → MeansTheSame xs n x → MeansTheSame xs x l → MeansTheSame xs n l) (sym h)
        (λ l g stands written one two.
        subst (MeansTheSame xs n) (sym g) (means_further m imports exports hidden ds (ndecls_in k) (ndecls_in l) xs stands written one (subst (MeansTheSame xs (with_declarations (ndecls_in k) n)) g two)))

replayed_means : {xs : List NModule} {es : List Entry} {n k : NModule} → Stands xs n → All (λ x. AreDeclsWritten (ndecls_in x)) (n ∷ xs) → Replays xs es n k → MeansTheSame xs n k
replayed_means {xs = xs} {n = n} stands w at_end = means_itself xs n
replayed_means stands w (past_mark p rest) = replayed_means stands w rest
replayed_means {xs = xs} {n = n} {k = l} stands w (past_step {k = k} s step rest) =
    let there = step_stands stands step in
    let meant = step_meant stands w there.0 step in
    let written = All-cons (λ x. AreDeclsWritten (ndecls_in x)) k xs meant.written (All-tail (λ x. AreDeclsWritten (ndecls_in x)) n xs w) in
    meant_further n k l xs there.0 meant.written there.1.header (replayed there.0 rest).1.header meant.means (replayed_means there.0 written rest)

pub replays_keep_meaning : ReplaysKeepMeaning
replays_keep_meaning xs es n k stands w log = replayed_means stands w log
