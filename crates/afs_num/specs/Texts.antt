-- How the base types are written in a text.
use Rattle.std.specs.Prelude.{ℕ, List, ◌++◌, codes}
use Rattle.std.specs.Fmt.{decimal}
use Rattle.afs_num.specs.declared.types.Fid.{Fid}
use Rattle.afs_num.specs.declared.types.Key.{Key}
use Rattle.afs_num.specs.declared.types.Node.{Node}
use Rattle.afs_num.specs.declared.types.Node.TheVariants.{Loc, Server, Client, Admin}

-- the location database is loc, server i is s and i, client i is c and i, administrator i is a and i
abbrev pub node_text : Node → List ℕ
node_text Loc = codes "loc"
node_text (Server i) = codes "s" ++ decimal i
node_text (Client i) = codes "c" ++ decimal i
node_text (Admin i) = codes "a" ++ decimal i

-- volume.vnode.unique
abbrev pub fid_text : Fid → List ℕ
fid_text f = decimal f.volume ++ (codes "." ++ (decimal f.vnode ++ (codes "." ++ decimal f.unique)))

-- node.epoch.number
abbrev pub key_text : Key → List ℕ
key_text k = node_text k.node ++ (codes "." ++ (decimal k.epoch ++ (codes "." ++ decimal k.number)))
