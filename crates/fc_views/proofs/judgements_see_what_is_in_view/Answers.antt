use Rattle.fc_views.proofs.CoercionsInView.{kinds_see_the_view, coercions_see_the_view}
use Rattle.fc_views.proofs.DeclarationsInView.{modules_see_the_view}
use Rattle.fc_views.proofs.ExpressionsInView.{expressions_see_the_view}
use Rattle.fc_views.proofs.NamesInView.{names_are_in_view}
use Rattle.fc_views.proofs.ViewsClosed.{headers_close_views, headers_mention_fewer}
use Rattle.fc_views.proofs.judgements_see_what_is_in_view.Goals as goal

pub returns : goal.returns
returns c = record {
  kinds = kinds_see_the_view;
  coercions = coercions_see_the_view;
  expressions = expressions_see_the_view;
  modules = modules_see_the_view;
  closed = headers_close_views;
  fewer = headers_mention_fewer;
  names = names_are_in_view;
}
