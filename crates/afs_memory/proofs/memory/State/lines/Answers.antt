use Rattle.std.proofs.Common.{◌∙◌, List, ap, subst, sym, map}
use Rattle.afs_num.specs.declared.histories.Version.{Version}
use Rattle.afs_num.specs.declared.types.Key.{Key}
use Rattle.afs_num.specs.declared.volumes.Change.{Change}
use Rattle.spec_ideal.specs.Tables.{get}
use Rattle.spec_records.specs.Durable.{change_lines, nothing_on, versions_told}
use Rattle.spec_fold.specs.Effects.{effect_by}
use Rattle.afs_memory.specs.Redos.{body_of, Suits}
use Rattle.afs_memory.specs.States.{parts_of}
use Rattle.afs_memory.specs.Telling.{in_words, version_within}
use Rattle.afs_memory.specs.declared.redo.Redo.{Redo}
use Rattle.afs_shelves.proofs.Done.{suits_besides}
use Rattle.afs_shelves.proofs.Lists.{if_ok}
use Rattle.afs_shelves.proofs.Told.{in_words_too}
use Rattle.afs_memory.proofs.Told.{lines_are}
use Rattle.afs_memory.proofs.memory.State.lines.Goals as goal

pub returns-in_ok-versions-in-Change-clause-value : goal.returns-in_ok-versions-in-Change-clause-value
returns-in_ok-versions-in-Change-clause-value c =
    let told : Change → List Version = λ x. versions_told c.in-Change.id x.vnodes x.removed (get c.in-Change.id (parts_of c.args.self.now).volumes) in
    let full : List Version = told c.in-Change.change in
    if_ok c.change_lines.result _ _
    (λ ls is. is
    ∙ (lines_are c.args.server c.key_in.result full c.in_ok-versions-in-Change.versions (c.in_ok-versions-in-Change.ensures ∙ ap (λ (x : Change). map version_within (told x)) c.change.ensures)
    ∙ (ap (λ (k : Key). map in_words (change_lines c.args.server k full)) c.key_in.ensures
    ∙ sym (ap (λ (r : Redo). map in_words (effect_by c.args.server c.args.head.now (body_of r) (parts_of c.args.self.now))) c.in-Change.is))))
    c.change_lines.ensures

pub lines-requires : goal.lines-requires
lines-requires c =
    let s = c.args.self.now in
    let suits = subst (λ (r : Redo). Suits r (parts_of s)) c.in-Deed.is c.requires.suits in
    (suits_besides c.in-Deed.deed (parts_of s) (nothing_on 0) s.shelves.volumes.table s.shelves.forwardings.table suits).made

pub returns-in_ok-lines-in-Deed-clause-value : goal.returns-in_ok-lines-in-Deed-clause-value
returns-in_ok-lines-in-Deed-clause-value c =
    let s = c.args.self.now in
    in_words_too c.in_ok-lines-in-Deed.lines _ (c.in_ok-lines-in-Deed.ensures.value c.args.head.now (parts_of s)) c.in_ok-lines-in-Deed.ensures.words
    ∙ sym (ap (λ (r : Redo). map in_words (effect_by c.args.server c.args.head.now (body_of r) (parts_of s))) c.in-Deed.is)

pub returns-in_ok-lines-in-Deed-clause-words : goal.returns-in_ok-lines-in-Deed-clause-words
returns-in_ok-lines-in-Deed-clause-words c = λ plain.
    let s = c.args.self.now in
    c.in_ok-lines-in-Deed.ensures.value c.args.head.now (parts_of s)
    ∙ sym (ap (λ (r : Redo). effect_by c.args.server c.args.head.now (body_of r) (parts_of s)) c.in-Deed.is)

pub returns-in_ok-lines-in-Start-clause-value : goal.returns-in_ok-lines-in-Start-clause-value
returns-in_ok-lines-in-Start-clause-value c =
    let s = c.args.self.now in
    in_words_too c.in_ok-lines-in-Start.lines _ c.in_ok-lines-in-Start.ensures.value c.in_ok-lines-in-Start.ensures.words
    ∙ sym (ap (λ (r : Redo). map in_words (effect_by c.args.server c.args.head.now (body_of r) (parts_of s))) c.in-Start.is)
