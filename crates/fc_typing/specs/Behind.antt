-- Judgements of pieces of the named tree behind binders.
use Rattle.std.specs.Prelude.{List, Result, Ok, Option}
use Rattle.fc_syntax.specs.Tree.{Binder, Co, Expr, Kind, Ty}
use Rattle.fc_model.specs.Calling.{at_type}
use Rattle.fc_model.specs.Coercing.{Ends, ends_or_fault}
use Rattle.fc_model.specs.Faulting.{F, and_then}
use Rattle.fc_model.specs.Kinding.{Modules, kind_or_fault}
use Rattle.fc_model.specs.Nameless.{NBinder, NTy}
use Rattle.fc_model.specs.Resolution.{Locals, Top, enter_all, no_locals, no_words, resolved_binders, resolved_co, resolved_expr, resolved_ty}
use Rattle.fc_model.specs.Typing.{Context, no_context, type_or_fault, type_read_off, with_binders}

-- binders in their nameless form, or the first fault of names in them
abbrev pub forms_of_binders : Top → List Binder → Result (List NBinder) F
forms_of_binders top bs = resolved_binders top no_locals no_words 0 bs

-- what words mean behind binders
abbrev pub locals_behind : List Binder → Locals
locals_behind bs = enter_all bs no_locals

-- what is in scope behind binders in their nameless form
abbrev pub context_behind : List NBinder → Context
context_behind ns = with_binders ns no_context

-- the kind of a type behind binders, or the first fault: of names in the binders, of names in the type, of the type
abbrev pub kind_judged : Modules → Top → List Binder → Ty → Result Kind F
kind_judged ms top bs t =
    and_then (forms_of_binders top bs) (λ ns.
    and_then (resolved_ty top (locals_behind bs).types t) (λ n. kind_or_fault ms (context_behind ns).kinds n))

-- what a coercion proves behind binders, or the first fault
abbrev pub ends_judged : Modules → Top → List Binder → Co → Result Ends F
ends_judged ms top bs g =
    and_then (forms_of_binders top bs) (λ ns.
    and_then (resolved_co top (locals_behind bs) g) (λ n. ends_or_fault ms (context_behind ns).kinds (context_behind ns).coercions n))

-- the type of an expression behind binders, or the first fault
abbrev pub type_judged : Modules → Top → List Binder → Expr → Result NTy F
type_judged ms top bs e =
    and_then (forms_of_binders top bs) (λ ns.
    and_then (resolved_expr top (locals_behind bs) e) (λ n. type_or_fault ms (context_behind ns) n))

-- the type of an expression read off behind binders, if there is one, or the first fault of names
abbrev pub read_off : Modules → Top → List Binder → Expr → Result (Option NTy) F
read_off ms top bs e =
    and_then (forms_of_binders top bs) (λ ns.
    and_then (resolved_expr top (locals_behind bs) e) (λ n. Ok (type_read_off ms (context_behind ns) n)))

-- a `forall` at a type behind binders, if the first type is one, or the first fault of names
abbrev pub instance_judged : Top → List Binder → Ty → Ty → Result (Option NTy) F
instance_judged top bs t u =
    and_then (forms_of_binders top bs) (λ ns.
    and_then (resolved_ty top (locals_behind bs).types t) (λ m.
    and_then (resolved_ty top (locals_behind bs).types u) (λ n. Ok (at_type m n))))
