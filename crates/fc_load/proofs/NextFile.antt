-- What the next file of a set comes to, behind those so far.
use Rattle.std.proofs.Common.{◌≡◌, ◌≤◌, ◌<◌, ◌∙◌, ◌+◌, ℕ, List, [], ◌∷◌, ◌++◌, length, map, take, drop, get_or, suc, Option, Some, None, IfSome, option_map, sym, ap, subst}
use Rattle.std.proofs.Math.ListN.{get_or-map}
use Rattle.std.proofs.Math.Seq.{split_at}
use Rattle.std.proofs.lemmas.List.{length-map, take_all, take_more}
use Rattle.std.proofs.lemmas.Option.{slice_get-get_or, slice_get-map}
use Rattle.fc_files.specs.Outside.{FileMap}
use Rattle.fc_syntax.specs.Tree.{Module}
use Rattle.fc_syntax.specs.declared.fault.Fault.{Fault}
use Rattle.fc_load.specs.Answers.{IsAmong, IsReached}
use Rattle.fc_load.specs.Loading.{Amount, AllReadTo, FaultOfEntry, FaultOfReading, nothing_read}
use Rattle.fc_load.specs.OneFile.{GoesOn}
use Rattle.fc_load.proofs.SoFar.{IsSoFar, all_so_far, fault_next, one_so_far}

-- the names before a place, the one at it and those behind it
parts : {X : Type 0} (now : X → List ℕ) (names : List X) (i : ℕ) (d : X) → i < length names
    → map now names ≡ take i (map now names) ++ (now (get_or names i d) ∷ drop (suc i) (map now names))
parts now names i d below =
    split_at (map now names) i (now d) (rw length-map below) ∙ ap (λ n. take i (map now names) ++ (n ∷ drop (suc i) (map now names))) (get_or-map now names i d)

-- the names up to and with the one at a place
more_names : {X : Type 0} (now : X → List ℕ) (names : List X) (i : ℕ) (d : X) → i < length names
    → take (i + 1) (map now names) ≡ take i (map now names) ++ now (get_or names i d) ∷ []
more_names now names i d below =
    take_more (map now names) i (now d) (rw length-map below) ∙ ap (λ n. take i (map now names) ++ n ∷ []) (get_or-map now names i d)

-- the one at a place is one of them
pub among_at : {X : Type 0} (now : X → List ℕ) (names : List X) (i : ℕ) (d : X) → i < length names → IsAmong (map now names) (now (get_or names i d))
among_at now names i d below = (i, slice_get-map now names i ∙ ap (option_map now) (slice_get-get_or names i d below))

-- the next file has a fault
pub refused_next : {X : Type 0} (now : X → List ℕ) (names : List X) (i : ℕ) (d : X) (held next : Option FileMap) (read : Amount) (done : List Module) (f : Fault) → i < length names → next ≡ held
    → IfSome held (λ m. IsSoFar m read (take i (map now names)) done) → IfSome next (λ m. FaultOfEntry read (now (get_or names i d)) (m (now (get_or names i d))) f)
    → IfSome held (λ m. FaultOfReading m f nothing_read (map now names))
refused_next now names i d None next read done f below same so_far fault = tt
refused_next now names i d (Some m) next read done f below same so_far fault =
    let entry = subst (λ h. IfSome h (λ k. FaultOfEntry read (now (get_or names i d)) (k (now (get_or names i d))) f)) same fault in
    subst (FaultOfReading m f nothing_read) (sym (parts now names i d below)) (fault_next m read (take i (map now names)) done (now (get_or names i d)) (drop (suc i) (map now names)) f so_far entry)

-- the read of the next file fails
pub reached_next : {X : Type 0} (now : X → List ℕ) (names : List X) (i : ℕ) (d : X) (held : Option FileMap) (read : Amount) (done : List Module) → i < length names
    → IfSome held (λ m. IsSoFar m read (take i (map now names)) done) → IfSome held (λ m. IsReached m (map now names) (now (get_or names i d)))
reached_next now names i d None read done below so_far = tt
reached_next now names i d (Some m) read done below so_far = record {
  before = take i (map now names);
  rest = drop (suc i) (map now names);
  is = parts now names i d below;
  modules = done;
  read = all_so_far m read (take i (map now names)) done so_far;
}

-- the next file holds a module
pub read_next : {X : Type 0} (now : X → List ℕ) (names : List X) (i : ℕ) (d : X) (held next : Option FileMap) (read after : Amount) (done more : List Module) (n : Module) → i < length names → next ≡ held
    → more ≡ done ++ n ∷ [] → IfSome held (λ m. IsSoFar m read (take i (map now names)) done) → IfSome next (λ m. GoesOn m read (now (get_or names i d)) n after)
    → IfSome held (λ m. IsSoFar m after (take (i + 1) (map now names)) more)
read_next now names i d None next read after done more n below same pushed so_far goes_on = tt
read_next now names i d (Some m) next read after done more n below same pushed so_far goes_on =
    let file = now (get_or names i d) in
    let own : GoesOn m read file n after = subst (λ h. IfSome h (λ k. GoesOn k read file n after)) same goes_on in
    rw (own.behind, more_names now names i d below, pushed) (one_so_far m read (take i (map now names)) done file own.bytes n so_far own.reads)

-- no file is left
pub all_read : {X : Type 0} (now : X → List ℕ) (names : List X) (i : ℕ) (held : Option FileMap) (read : Amount) (done : List Module) → length names ≤ i
    → IfSome held (λ m. IsSoFar m read (take i (map now names)) done) → IfSome held (λ m. AllReadTo m nothing_read (map now names) done)
all_read now names i None read done over so_far = tt
all_read now names i (Some m) read done over so_far =
    subst (λ files. AllReadTo m nothing_read files done) (take_all i (map now names) (rw length-map over)) (all_so_far m read (take i (map now names)) done so_far)
