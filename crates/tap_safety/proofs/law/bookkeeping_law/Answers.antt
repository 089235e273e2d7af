use Rattle.tap_safety.proofs.StepLaws.{await_closing_law, await_handing_on_law, await_last_law, await_opening_law, await_others_law, await_root_law, closing_turns_law}
use Rattle.tap_safety.proofs.StepLaws.{depths_law, handing_on_turns_law, last_turns_law, opening_turns_law, places_law, root_turns_law}
use Rattle.tap_safety.proofs.law.bookkeeping_law.Goals as goal

pub returns-clause-handed_on : goal.returns-clause-handed_on
returns-clause-handed_on c = handing_on_turns_law

pub returns-clause-opened : goal.returns-clause-opened
returns-clause-opened c = opening_turns_law

pub returns-clause-seated : goal.returns-clause-seated
returns-clause-seated c = root_turns_law

pub returns-clause-closed : goal.returns-clause-closed
returns-clause-closed c = closing_turns_law

pub returns-clause-last : goal.returns-clause-last
returns-clause-last c = last_turns_law

pub returns-clause-places : goal.returns-clause-places
returns-clause-places c = places_law

pub returns-clause-depths : goal.returns-clause-depths
returns-clause-depths c = depths_law

pub returns-clause-await_handed_on : goal.returns-clause-await_handed_on
returns-clause-await_handed_on c = await_handing_on_law

pub returns-clause-await_opened : goal.returns-clause-await_opened
returns-clause-await_opened c = await_opening_law

pub returns-clause-await_seated : goal.returns-clause-await_seated
returns-clause-await_seated c = await_root_law

pub returns-clause-await_closed : goal.returns-clause-await_closed
returns-clause-await_closed c = await_closing_law

pub returns-clause-await_last : goal.returns-clause-await_last
returns-clause-await_last c = await_last_law

pub returns-clause-await_others : goal.returns-clause-await_others
returns-clause-await_others c = await_others_law
