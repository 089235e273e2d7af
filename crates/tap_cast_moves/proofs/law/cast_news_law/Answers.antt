use Rattle.tap_cast_moves.proofs.SoundCasts.{news_are_true}
use Rattle.tap_cast_moves.proofs.law.cast_news_law.Goals as goal

pub returns : goal.returns
returns c = news_are_true
