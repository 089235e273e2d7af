-- What is known of the command.
use Rattle.std.proofs.Common.{◌≡◌, refl, true}
use Rattle.clap.specs.Words.{is_simple, is_simple_and_free}
use Rattle.clap.proofs.OnLiterals.{clap_on_literals}
use Rattle.tap_host_line.specs.Command.{node_app}

pub is_simple_here : is_simple node_app ≡ true
unfolding clap_on_literals node_app
is_simple_here = refl

pub is_free_here : is_simple_and_free node_app ≡ true
unfolding clap_on_literals node_app
is_free_here = refl
