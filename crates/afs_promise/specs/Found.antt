-- Promises that were looked for before they are withdrawn.
use Rattle.std.specs.Prelude.{List, [], ◌∷◌}
use Rattle.spec_breaks.specs.Promises.{without_promise}
use Rattle.spec_breaks.specs.declared.types.Promise.{Promise}

-- what is left without them: each takes what its client holds on its fid
abbrev pub without_found : List Promise → List Promise → List Promise
without_found [] ps = ps
without_found (g ∷ gs) ps = without_found gs (without_promise g.client g.fid ps)
