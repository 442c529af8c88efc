-- What worked records stand for: the first, a change and a start of a server with one file.
use Rattle.std.proofs.Common.{◌≡◌, [], ◌∷◌, Some, refl}
use Rattle.std.specs.Prelude.{codes, false}
use Rattle.afs_num.specs.Names.{name_ok}
use Rattle.afs_xdr.specs.Words.{word, words, opaque, pad, word_at, opaque_at, counted_at}
use Rattle.spec_ideal.specs.AccessLists as acls
use Rattle.spec_ideal.specs.Directories as directories
use Rattle.spec_ideal.specs.Images.{value_of}
use Rattle.spec_ideal.specs.Operations.{new_file}
use Rattle.spec_ideal.specs.SetUp.{new_root}
use Rattle.spec_ideal.specs.VnodeImage.{kind_fits, image, image_at, word_field, opaque_field, kind_field}
use Rattle.spec_ideal.specs.Volumes.{fresh}
use Rattle.spec_records.specs.Durable.{Durable}
use Rattle.spec_records.specs.Records.{head_form, volume_form, record_at, record_bytes}
use Rattle.spec_records.specs.Sound.{is_sound}
use Rattle.spec_records.proofs.Worked.{change_words, first_words, home, reply, start_words}
use Rattle.spec_fold.specs.Fold.{fold_all, folded}

abbrev after : Durable
after = record {
  boot = 2;
  volumes = (
    home,
    record {
      volume = record {
        family = home;
        name = codes "proj";
        kind = 0;
        flags = 0;
        quota = 1000;
        next = 3;
        counter = 2;
        release = 0;
        vnodes = (1, record new_root { names = (record { name = codes "a"; vnode = 2; unique = 2 }) ∷ [] })
            ∷ (2, record (fresh 2 2 (new_file (record { volume = home; vnode = 1; unique = 1 }))) { index = 2; data_version = 2; contents = codes "def" }) ∷ [];
      };
      times = (1, 0) ∷ (2, 0) ∷ [];
      is_new = false;
    },
  ) ∷ [];
  stamps = [];
  forwardings = [];
  kept = (101, record { epoch = 1; number = 1; reply = reply }) ∷ [];
  journal = 612;
  capacity = 268435456;
}

they_stand : fold_all 268435456 (words first_words ∷ words change_words ∷ words start_words ∷ []) ≡ Some after
unfolding record_at record_bytes head_form volume_form word opaque pad word_at opaque_at counted_at image image_at word_field opaque_field kind_field kind_fits value_of is_sound folded directories.directory_of directories.whole_at directories.count_at directories.names_at directories.name_at directories.spelled_at directories.bytes_below acls.acl_at acls.count_at acls.line_number_at acls.acl_entry_at acls.name_at acls.named_at name_ok
they_stand = refl
