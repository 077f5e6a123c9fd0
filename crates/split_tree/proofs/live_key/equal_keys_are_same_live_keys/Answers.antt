use Rattle.split_tree.proofs.SameKeys.{equal-keys-are-same-live-keys}
use Rattle.split_tree.proofs.live_key.equal_keys_are_same_live_keys.Goals as goal

pub returns : goal.returns
returns c = equal-keys-are-same-live-keys
