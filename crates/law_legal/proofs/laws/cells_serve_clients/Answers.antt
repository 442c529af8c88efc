use Rattle.law_legal.proofs.ServerClients.{cells_serve_clients}
use Rattle.law_legal.proofs.laws.cells_serve_clients.Goals as goal

pub returns : goal.returns
returns c = cells_serve_clients
