use Rattle.gc_texts.proofs.DescribedTexts.{described_commands_fit}
use Rattle.gc_texts.proofs.laws.described_commands_are_as_described.Goals as goal

pub returns : goal.returns
returns c = described_commands_fit
