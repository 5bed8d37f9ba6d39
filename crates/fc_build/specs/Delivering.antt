-- What comes of the writing of files and of the lines on the output.
use Rattle.std.specs.Prelude.{◌≡◌, ◌++◌, [], ◌∷◌, ℕ, List, Option, map}
use Rattle.fc_files.specs.Outside.{FileMap, Rose, Told}
use Rattle.fc_build.specs.Product.{IsNameAmong, Output, Step, Stopped, StopsAt, TakesSome, WritesSome, all_files, all_lines, outputs, put_all}
use Rattle.fc_build.specs.declared.product.Step as rust
use Rattle.fc_build.specs.declared.product.Written.{Written}
use Rattle.fc_build.specs.declared.product.Written.TheVariants as written
use Rattle.fc_build.specs.declared.deliver.Delivery.{Delivery}
use Rattle.fc_build.specs.declared.deliver.Delivery.TheVariants as delivery

abbrev pub step_in : rust.Step → Step
step_in s = record { files = outputs s.files.items; line = s.line.items }

abbrev pub steps_in : List rust.Step → List Step
steps_in = map step_in

-- what stands after the writing of a list of files
abbrev pub WritesAll : Written → List Output → Option FileMap → Option FileMap → ℕ → ℕ → Type 0
WritesAll written.All os held held' writes writes' = Told held held' (λ m m'. m' ≡ put_all os m)
WritesAll (written.FailedAt name) os held held' writes writes' = IsNameAmong os name.now × Rose writes writes' × Told held held' (StopsAt os name.now)
WritesAll written.Memory os held held' writes writes' = Told held held' (WritesSome os)

-- the same of the files of one module, and then of its line
abbrev pub DeliversStep : Delivery → Step → Option FileMap → Option FileMap → ℕ → ℕ → Option (List ℕ) → Option (List ℕ) → ℕ → ℕ → Type 0
DeliversStep delivery.Done step held held' writes writes' out out' puts puts' =
    Told held held' (λ m m'. m' ≡ put_all step.files m) × Told out out' (λ a b. b ≡ a ++ step.line)
DeliversStep (delivery.WriteFault name) step held held' writes writes' out out' puts puts' =
    IsNameAmong step.files name.now × Rose writes writes' × Told held held' (StopsAt step.files name.now) × (out' ≡ out)
DeliversStep delivery.PutFault step held held' writes writes' out out' puts puts' =
    Rose puts puts' × Told held held' (λ m m'. m' ≡ put_all step.files m) × Told out out' (TakesSome step.line)
DeliversStep delivery.Memory step held held' writes writes' out out' puts puts' = Told held held' (WritesSome step.files) × (out' ≡ out)

-- All files stand whole and all lines were put. Or a write failed: the files before it stand whole, and the lines of the modules before were put. Or the
-- put of a line failed, when the files of its module and of those before stand whole. Or memory ran out at one of the files.
abbrev pub Delivers : Delivery → List Step → Option FileMap → Option FileMap → ℕ → ℕ → Option (List ℕ) → Option (List ℕ) → ℕ → ℕ → Type 0
Delivers delivery.Done steps held held' writes writes' out out' puts puts' =
    Told held held' (λ m m'. m' ≡ put_all (all_files steps) m) × Told out out' (λ a b. b ≡ a ++ all_lines steps)
Delivers (delivery.WriteFault name) steps held held' writes writes' out out' puts puts' =
    (at : Stopped steps) × IsNameAmong at.step.files name.now × Rose writes writes' × Told held held' (λ m m'. StopsAt at.step.files name.now (put_all (all_files at.before) m) m')
    × Told out out' (λ a b. b ≡ a ++ all_lines at.before)
Delivers delivery.PutFault steps held held' writes writes' out out' puts puts' =
    (at : Stopped steps) × Rose puts puts' × Told held held' (λ m m'. m' ≡ put_all (all_files (at.before ++ (at.step ∷ []))) m)
    × Told out out' (λ a b. TakesSome at.step.line (a ++ all_lines at.before) b)
Delivers delivery.Memory steps held held' writes writes' out out' puts puts' =
    (at : Stopped steps) × Told held held' (λ m m'. WritesSome at.step.files (put_all (all_files at.before) m) m') × Told out out' (λ a b. b ≡ a ++ all_lines at.before)

-- the files are as before, and no write has failed
abbrev pub IsSameDevice : Option FileMap → Option FileMap → ℕ → ℕ → Type 0
IsSameDevice held held' writes writes' = (held' ≡ held) × (writes' ≡ writes)
