-- What the files so far leave to those that are still to come.
use Rattle.std.proofs.Common.{ℕ, List, [], ◌∷◌, ◌++◌, subst, sym, append_assoc}
use Rattle.std.proofs.lemmas.List.{append-nil}
use Rattle.fc_syntax.specs.Tree.{Module}
use Rattle.fc_syntax.specs.declared.fault.Fault.{Fault}
use Rattle.fc_load.specs.Loading.{Amount, AllReadTo, FaultOfEntry, FaultOfReading, FileReadsTo, Holding, in_first, in_later, no_files, nothing_read, one_file, with_file}

-- Whatever files hold behind what has been read of these, they hold behind these.
pub record IsSoFar (held : Holding) (read : Amount) (before : List (List ℕ)) (done : List Module) : Type 0 where
  pub modules : (files : List (List ℕ)) (ms : List Module) → AllReadTo held read files ms → AllReadTo held nothing_read (before ++ files) (done ++ ms)
  pub fault : (f : Fault) (files : List (List ℕ)) → FaultOfReading held f read files → FaultOfReading held f nothing_read (before ++ files)

-- no file so far
pub none_so_far : (held : Holding) → IsSoFar held nothing_read [] []
none_so_far held = record { modules = λ files ms h. h; fault = λ f files h. h }

-- one more file that holds a module
pub one_so_far : (held : Holding) (read : Amount) (before : List (List ℕ)) (done : List Module) (file bytes : List ℕ) (m : Module) → IsSoFar held read before done → FileReadsTo held read file bytes m
    → IsSoFar held (with_file read bytes m) (before ++ file ∷ []) (done ++ m ∷ [])
one_so_far held read before done file bytes m so_far reads = record {
  modules = λ files ms h.
      subst (λ all. AllReadTo held nothing_read all ((done ++ m ∷ []) ++ ms)) (sym (append_assoc before (file ∷ []) files))
      (subst (AllReadTo held nothing_read (before ++ (file ∷ files))) (sym (append_assoc done (m ∷ []) ms)) (so_far.modules (file ∷ files) (m ∷ ms) (one_file reads h)));
  fault = λ f files h. subst (FaultOfReading held f nothing_read) (sym (append_assoc before (file ∷ []) files)) (so_far.fault f (file ∷ files) (in_later reads h));
}

-- the files so far are all
pub all_so_far : (held : Holding) (read : Amount) (before : List (List ℕ)) (done : List Module) → IsSoFar held read before done → AllReadTo held nothing_read before done
all_so_far held read before done so_far =
    subst (λ files. AllReadTo held nothing_read files done) (append-nil before)
    (subst (AllReadTo held nothing_read (before ++ [])) (append-nil done) (so_far.modules [] [] no_files))

-- the next file has a fault
pub fault_next : (held : Holding) (read : Amount) (before : List (List ℕ)) (done : List Module) (file : List ℕ) (rest : List (List ℕ)) (f : Fault) → IsSoFar held read before done → FaultOfEntry read file (held file) f
    → FaultOfReading held f nothing_read (before ++ (file ∷ rest))
fault_next held read before done file rest f so_far fault = so_far.fault f (file ∷ rest) (in_first fault)
