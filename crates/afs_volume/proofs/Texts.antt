-- The texts of access lists.
use Rattle.std.proofs.Common.{◌≡◌, ℕ, ◌+◌, ◌/◌, List, [], ◌∷◌, true, Ok, Err, Result, is_ok, length, refl, ap, sym}
use Rattle.std.specs.Prelude.{codes}
use Rattle.afs_num.specs.declared.acls.AccessList.{AccessList}
use Rattle.spec_ideal.specs.AccessLists.{acl_at, acl_text, count_at, line_number_at, acl_entry_at, name_at, named_at, Refusal}
use Rattle.spec_ideal.specs.Directories.{directory_bytes}
use Rattle.spec_ideal.specs.SetUp.{new_root}
use Rattle.spec_ideal.specs.Tables.{Table}
use Rattle.spec_ideal.specs.Volumes.{Vnode, blocks_in}
use Rattle.afs_xdr.specs.Words.{word}
use Rattle.spec_ideal.proofs.AccessLists.{read_is_text}
use Rattle.afs_volume.specs.Seen.{list_read, list_spelled}

text_by : (text : List ℕ) (r : Result AccessList Refusal) → acl_at text ≡ r → is_ok r ≡ true → text ≡ acl_text (list_read r)
text_by text (Ok a) is good = (read_is_text text a is).1
text_by text (Err e) is good = absurd cc

pub text_is_list : (text : List ℕ) → is_ok (acl_at text) ≡ true → text ≡ acl_text (list_spelled text)
unfolding list_spelled
text_is_list text good = text_by text (acl_at text) refl good

-- the list that gives everyone all rights
pub everyone_is_listed : (text : List ℕ) → text ≡ codes "1\n0\nsystem:anyuser\t127\n" → list_spelled text ≡ new_root.acl
unfolding list_spelled acl_at count_at line_number_at acl_entry_at name_at named_at
everyone_is_listed text is = rw is refl

pub everyone_is_read : (text : List ℕ) → text ≡ codes "1\n0\nsystem:anyuser\t127\n" → is_ok (acl_at text) ≡ true
unfolding acl_at count_at line_number_at acl_entry_at name_at named_at
everyone_is_read text is = rw is refl

-- a directory without names
pub nothing_is_short : length (directory_bytes []) ≡ 4
unfolding directory_bytes word
nothing_is_short = refl

pub one_block : (t : Table Vnode) → t ≡ (1, new_root) ∷ [] → 1 ≡ blocks_in t
one_block t is = rw is (ap (λ (n : ℕ). (n + 1023) / 1024 + 0) (sym nothing_is_short))
