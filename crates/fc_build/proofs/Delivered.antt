-- What comes of the steps of a set, one behind the other.
use Rattle.std.proofs.Common.{map, ◌≡◌, ◌≢◌, ◌≤◌, ◌-◌, ℕ, List, [], ◌∷◌, ◌++◌, length, take, drop, get_or, Option, Some, None, refl, sym, ap, ◌∙◌, subst, arith, append-nil, append_assoc}
use Rattle.std.proofs.Math.Seq.{take-length}
use Rattle.fc_files.specs.Outside.{FileMap, Told}
use Rattle.fc_build.specs.Delivering.{Delivers, DeliversStep, step_in, steps_in}
use Rattle.fc_build.specs.Product.{Output, Step, Stopped, StopsAt, TakesSome, WritesSome, all_files, all_lines, outputs, put_all}
use Rattle.fc_build.specs.declared.deliver.Delivery.{Delivery}
use Rattle.fc_build.specs.declared.deliver.Delivery.TheVariants as delivery
use Rattle.fc_build.specs.declared.product.File.{File}
use Rattle.fc_build.specs.declared.product.Step as rust
use Rattle.fc_build.proofs.LineLemmas.{rose_later}

put_all_behind : (os ps : List Output) (m : FileMap) → put_all (os ++ ps) m ≡ put_all ps (put_all os m)
put_all_behind [] ps m = refl
put_all_behind (o ∷ os) ps m = put_all_behind os ps _

-- one change, and then another
told_then : {A : Type 0} (P Q R : A → A → Type 0) (a b c : Option A) → ((x y z : A) → P x y → Q y z → R x z) → Told a b P → Told b c Q → Told a c R
told_then P Q R None b c join p q = tt
told_then P Q R (Some x) None c join p q = absurd p
told_then P Q R (Some x) (Some y) None join p q = q
told_then P Q R (Some x) (Some y) (Some z) join p q = join x y z p q

-- what is as before is told with nothing behind
pub same_stream : (a b : Option (List ℕ)) → b ≡ a → Told a b (λ x y. y ≡ x ++ [])
same_stream None b e = tt
same_stream (Some x) None e = absurd cc
same_stream (Some x) (Some y) e = let is : y ≡ x = cc in is ∙ sym (append-nil x)

-- a step is first, and the others are behind it
abbrev behind_first : (s : Step) {ss : List Step} → Stopped ss → Stopped (s ∷ ss)
behind_first s at = record { before = s ∷ at.before; step = at.step; rest = at.rest; is = ap (λ xs. s ∷ xs) at.is }

abbrev at_first : (s : Step) (ss : List Step) → Stopped (s ∷ ss)
at_first s ss = record { before = []; step = s; rest = ss; is = refl }

lines_join : (s : Step) (lines : List ℕ) (a b c : List ℕ) → b ≡ a ++ s.line → c ≡ b ++ lines → c ≡ a ++ (s.line ++ lines)
lines_join s lines a b c p q = q ∙ ap (λ x. x ++ lines) p ∙ append_assoc a s.line lines

files_join : (s : Step) (os : List Output) (a b c : FileMap) → b ≡ put_all s.files a → c ≡ put_all os b → c ≡ put_all (s.files ++ os) a
files_join s os a b c p q = q ∙ ap (put_all os) p ∙ sym (put_all_behind s.files os a)

-- the first step is done, and then the others come to this
module _ (s : Step) (ss : List Step) (held mid held' : Option FileMap) (writes middle writes' : ℕ) (out between out' : Option (List ℕ)) (puts passed puts' : ℕ)
    (files : Told held mid (λ m m'. m' ≡ put_all s.files m)) (lines : Told out between (λ a b. b ≡ a ++ s.line)) (later : writes ≤ middle) (put_later : puts ≤ passed) where
  pub done_then : (d : Delivery) → Delivers d ss mid held' middle writes' between out' passed puts' → Delivers d (s ∷ ss) held held' writes writes' out out' puts puts'
  done_then delivery.Done is =
      (told_then _ _ _ held mid held' (λ a b c p q. files_join s (all_files ss) a b c p q) files is.0, told_then _ _ _ out between out' (λ a b c p q. lines_join s (all_lines ss) a b c p q) lines is.1)
  done_then (delivery.WriteFault name) is = (
    behind_first s is.0,
    is.1,
    rose_later writes middle writes' later is.2,
    told_then _ _ _ held mid held' (λ a b c p q. subst (λ m. StopsAt is.0.step.files name.now m c) (ap (put_all (all_files is.0.before)) p ∙ sym (put_all_behind s.files (all_files is.0.before) a)) q) files is.3,
    told_then _ _ _ out between out' (λ a b c p q. lines_join s (all_lines is.0.before) a b c p q) lines is.4,
  )
  done_then delivery.PutFault is = (
    behind_first s is.0,
    rose_later puts passed puts' put_later is.1,
    told_then _ _ _ held mid held' (λ a b c p q. files_join s (all_files (is.0.before ++ (is.0.step ∷ []))) a b c p q) files is.2,
    told_then _ _ _ out between out' (λ a b c p q. subst (λ (x : List ℕ). TakesSome is.0.step.line x c) (ap (λ x. x ++ all_lines is.0.before) p ∙ append_assoc a s.line (all_lines is.0.before)) q) lines is.3,
  )
  done_then delivery.Memory is = (
    behind_first s is.0,
    told_then _ _ _ held mid held' (λ a b c p q. subst (λ m. WritesSome is.0.step.files m c) (ap (put_all (all_files is.0.before)) p ∙ sym (put_all_behind s.files (all_files is.0.before) a)) q) files is.1,
    told_then _ _ _ out between out' (λ a b c p q. lines_join s (all_lines is.0.before) a b c p q) lines is.2,
  )

nothing_first : (os ps : List Output) → os ++ ps ≡ [] → (os ≡ []) × (ps ≡ [])
nothing_first [] ps e = (refl, e)
nothing_first (o ∷ os) ps e = absurd cc

-- the first step is not done
told_same : {A : Type 0} (P Q : A → A → Type 0) (a b : Option A) → ((x y : A) → P x y → Q x y) → Told a b P → Told a b Q
told_same P Q None b f t = tt
told_same P Q (Some x) None f t = t
told_same P Q (Some x) (Some y) f t = f x y t

pub stopped_first : (d : Delivery) (s : Step) (ss : List Step) (held held' : Option FileMap) (writes writes' : ℕ) (out out' : Option (List ℕ)) (puts puts' : ℕ) → (d ≢ delivery.Done)
    → DeliversStep d s held held' writes writes' out out' puts puts' → Delivers d (s ∷ ss) held held' writes writes' out out' puts puts'
stopped_first delivery.Done s ss held held' writes writes' out out' puts puts' not_done is = absurd (not_done refl)
stopped_first (delivery.WriteFault name) s ss held held' writes writes' out out' puts puts' not_done is =
    (at_first s ss, is.0, is.1, is.2, same_stream out out' is.3)
stopped_first delivery.PutFault s ss held held' writes writes' out out' puts puts' not_done is = (
  at_first s ss,
  is.0,
  told_same _ _ held held' (λ x y e. e ∙ ap (λ os. put_all os x) (sym (append-nil s.files))) is.1,
  told_same _ _ out out' (λ x y t. subst (λ (z : List ℕ). TakesSome s.line z y) (sym (append-nil x)) t) is.2,
)
stopped_first delivery.Memory s ss held held' writes writes' out out' puts puts' not_done is = (at_first s ss, is.0, same_stream out out' is.1)

-- where there are no files, the first step has none and the others have none
pub no_files_behind : (s : Step) (ss : List Step) → all_files (s ∷ ss) ≡ [] → (s.files ≡ []) × (all_files ss ≡ [])
no_files_behind s ss e = nothing_first s.files (all_files ss) e

-- FILES OF STEPS

-- the first of a list, and those behind it, under a function
pub first_under : {X Y : Type 0} (f : X → Y) (xs : List X) (x : X) → 1 ≤ length xs → x ≡ get_or xs 0 x → map f xs ≡ f x ∷ map f (take (length xs - 1) (drop 1 xs))
first_under f [] x le e = absurd (omega (arith, le))
first_under f (y ∷ ys) x le e =
    let others : length (y ∷ ys) - 1 ≡ length ys = omega arith in
    ap (λ z. f z ∷ map f ys) (sym e) ∙ ap (λ zs. f x ∷ map f zs) (sym (ap (λ k. take k ys) others ∙ take-length ys))

-- the first step of a list, and those behind it
pub front : (xs : List rust.Step) (x : rust.Step) → 1 ≤ length xs → x ≡ get_or xs 0 x → steps_in xs ≡ step_in x ∷ steps_in (take (length xs - 1) (drop 1 xs))
front = first_under step_in

-- where there are no files to write, there are none
pub no_outputs : (files : List File) → outputs files ≡ [] → files ≡ []
no_outputs [] e = refl
no_outputs (f ∷ fs) e = absurd cc
