use Rattle.gc_theorems.proofs.Slack.{local_with_slack}
use Rattle.gc_theorems.proofs.client_damage.damage_is_local_with_slack.Goals as goal

pub returns : goal.returns
returns g c = local_with_slack
