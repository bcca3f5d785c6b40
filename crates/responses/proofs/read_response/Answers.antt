use Rattle.responses.proofs.Responding.{responding}
use Rattle.responses.proofs.read_response.Goals as goal

pub returns-then-s-next-eq70 : goal.returns-then-s-next-eq70
returns-then-s-next-eq70 c = search responding

pub returns-else-s-next-eq70 : goal.returns-else-s-next-eq70
returns-else-s-next-eq70 c = search responding
