use Rattle.std.proofs.Common.{ap, refl, arith}
use Rattle.fc_syntax.specs.View.{decl_of, decls_of}
use Rattle.fc_model.specs.FileForms.{ModuleFile}
use Rattle.fc_model.specs.Grammar.{ADeclaration, Many}
use Rattle.fc_model.specs.Texts.{SomeMembersAt}
use Rattle.fc_read_parts.specs.Seen.{ahead}
use Rattle.fc_reader.specs.declared.limits.Halt.TheVariants as halt
use Rattle.fc_reader.specs.Halting.{Halts}
use Rattle.fc_read_parts.proofs.Stars.{many_start, star_more}
use Rattle.fc_reader.proofs.Halts.{member_deep, member_much, member_stops, more_are_within, more_read, more_size, none_read, none_size, none_within}
use Rattle.fc_reader.proofs.Steps.{err_is}
use Rattle.fc_reader.proofs.decls.read_decls.Goals as goal

pub each-init : goal.each-init
each-init c = record {
  star = many_start ADeclaration _ _ (ap decls_of c.new-all.ensures);
  read = none_read ModuleFile (ap decls_of c.new-all.ensures);
  within = none_within ModuleFile c.args.room (ap decls_of c.new-all.ensures);
  size = none_size ModuleFile (ap decls_of c.new-all.ensures);
  small = omega arith;
}

pub returns-in_err-decl-clause-halt : goal.returns-in_err-decl-clause-halt
returns-in_err-decl-clause-halt c =
    let s = c.in_err-decl.field-0.0 in
    err_is (Halts ModuleFile c.args.room (SomeMembersAt ModuleFile) (Many ADeclaration) (ahead c.args.tokens.now)) _ (halt.Stop s) c.from_residual.ensures.1
    (member_stops ModuleFile c.args.room s c.each.invariant.read c.each.invariant.within c.each.invariant.star (c.if-closes.ensures.open refl) c.in_err-decl.ensures.fault)

pub returns-in-Deep-clause-halt : goal.returns-in-Deep-clause-halt
returns-in-Deep-clause-halt c = member_deep ModuleFile c.args.room c.each.invariant.read c.each.invariant.within (c.if-closes.ensures.open refl) c.in_ok-decl.ensures.read c.left-left.ensures c.in-Deep.ensures

pub returns-in-Much-clause-halt : goal.returns-in-Much-clause-halt
returns-in-Much-clause-halt c =
    member_much ModuleFile c.args.room c.each.size c.each.invariant.read c.each.invariant.within (c.if-closes.ensures.open refl) c.in_ok-decl.ensures.read c.left-left.ensures c.each.invariant.size c.in-Much.ensures

pub each-preserved : goal.each-preserved
each-preserved c = record {
  star = star_more ADeclaration _ decl_of _ _ _ _ c.each.all c.push.new.self c.in_ok-decl.decl c.each.invariant.star (c.if-closes.ensures.open refl) c.in_ok-decl.ensures.read c.in_ok-decl.ensures.shorter c.in_ok-push.ensures.ok;
  read = more_read ModuleFile decl_of c.each.all c.push.new.self c.in_ok-decl.decl c.in_ok-push.ensures.ok c.each.invariant.read (c.if-closes.ensures.open refl) c.in_ok-decl.ensures.read;
  within = more_are_within ModuleFile c.args.room decl_of c.each.all c.push.new.self c.in_ok-decl.decl c.each.size c.in-Fits.all c.in_ok-push.ensures.ok c.each.invariant.within c.each.invariant.size c.in-Fits.ensures;
  size = more_size ModuleFile decl_of c.each.all c.push.new.self c.in_ok-decl.decl c.each.size c.in-Fits.all c.in_ok-push.ensures.ok c.each.invariant.size c.in-Fits.ensures.1.1.0;
  small = c.in-Fits.ensures.1.1.1;
}
