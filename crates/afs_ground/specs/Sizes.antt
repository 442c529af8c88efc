-- How long a volume in memory is in the first record of its server.
use Rattle.std.specs.Prelude.{ℕ, ◌+◌, [], ◌∷◌, Option, Some, None, length}
use Rattle.afs_num.specs.declared.vnodes.Vnode as image
use Rattle.spec_ideal.specs.Tables.{Table}
use Rattle.afs_grammar.specs.Lines.{filled_up}

abbrev pub image_size : image.Vnode → ℕ
image_size x = 80 + filled_up (length x.acl) + filled_up (length x.contents)

abbrev pub images_size : Table image.Vnode → ℕ
images_size [] = 0
images_size (p ∷ ps) = image_size p.1 + images_size ps

abbrev pub size_in_place : Option (ℕ × image.Vnode) → ℕ
size_in_place None = 0
size_in_place (Some p) = image_size p.1
