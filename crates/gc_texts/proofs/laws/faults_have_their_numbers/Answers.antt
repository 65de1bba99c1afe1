use Rattle.gc_texts.proofs.Common.{refl}
use Rattle.gc_texts.proofs.laws.faults_have_their_numbers.Goals as goal

pub returns : goal.returns
returns c = record {
  of_lines = refl;
  of_values = refl;
  of_calls = λ fault. refl;
  of_refusals = λ fault. refl;
  of_serving = λ replies bytes. refl;
  of_runs = λ replies bytes. refl;
  of_texts_and_ports = λ number. refl;
  of_the_program = refl;
  names = refl;
}
