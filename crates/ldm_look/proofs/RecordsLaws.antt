-- Objects of records, by the parts that code names.
use Rattle.std.proofs.Common.{◌≡◌, ◌∙◌, ◌++◌, ◌∷◌, [], ℕ, List, map, Option, refl, ap}
use Rattle.std.specs.Prelude.{flat_map, codes}
use Rattle.std.specs.Option.{option_map}
use Rattle.json.specs.Token.{Token}
use Rattle.json.specs.Tree.{json_tokens}
use Rattle.json.specs.Json.{Json, string}
use Rattle.ldm_json.specs.Values.{Member, Field, json_member, json_object, json_array, opening, closing, number_json, maybe_json, name_json, maybe_name_json, guid_json}
use Rattle.ldm_json.proofs.TokenLaws.{closed_is}
use Rattle.ldm_records.specs.declared.pieces.Head.{Head}
use Rattle.ldm_records.specs.declared.types.Record.{Record}
use Rattle.ldm_records.specs.declared.types.Volume.{Volume}
use Rattle.ldm_records.specs.declared.types.Component.{Component}
use Rattle.ldm_records.specs.declared.types.Disk.{Disk}
use Rattle.ldm_records.specs.declared.types.GroupRec.{GroupRec}
use Rattle.ldm_group.specs.Room.{own_len}
use Rattle.ldm_group.specs.Database.{Database}
use Rattle.ldm_vmdb.specs.declared.header.Header.{Header}
use Rattle.ldm_copy.specs.declared.answer.CopyState.TheVariants.{Valid}
use Rattle.ldm_text.specs.Texts.{guid_of_volume}
use Rattle.ldm_text.specs.Records.{type_of}
use Rattle.ldm_look.specs.RecordsJson.{kind_text, record_head, common_members, carried_guid, group_members, alternative_name, disk_members, volume_members, component_members, own_members, record_json, records_json}

-- an object that ends with an array, and stands alone
pub opened_alone : (one two three four : List Token) (fields : List Field) (key : List ℕ) (js : List Json) → one ≡ [] → two ≡ one ++ opening fields key → three ≡ two ++ flat_map json_tokens js
    → four ≡ three ++ closing → four ≡ json_tokens (json_object (map json_member fields ++ (key, json_array js) ∷ []))
opened_alone one two three four fields key js a b c d =
    d ∙ ap (λ (ts : List Token). ts ++ closing) (c ∙ ap (λ (ts : List Token). ts ++ flat_map json_tokens js) (b ∙ ap (λ (ts : List Token). ts ++ opening fields key) a))
    ∙ closed_is fields key js

pub group_is : (g : GroupRec) (guid first second : Option (List ℕ)) → guid ≡ carried_guid g.form → first ≡ option_map (λ ids. ids.first) g.ids → second ≡ option_map (λ ids. ids.second) g.ids
    → (codes "guid", maybe_name_json guid) ∷ (codes "id1", maybe_name_json first) ∷ (codes "id2", maybe_name_json second) ∷ [] ≡ group_members g
unfolding group_members
group_is g guid first second a b c = rw (a, b, c) refl

pub disk_is : (d : Disk) (alt : Option (List ℕ)) → alt ≡ alternative_name d.form
    → (codes "guid", guid_json d.guid) ∷ (codes "alternative_name", maybe_name_json alt) ∷ [] ≡ disk_members d
unfolding disk_members
disk_is d alt a = rw a refl

pub volume_is : (v : Volume) (kind second : List ℕ) (type guid : ℕ) (id1 id2 hint : Option (List ℕ)) → kind ≡ v.kind → second ≡ v.second → type ≡ v.part_type → guid ≡ guid_of_volume v
    → id1 ≡ v.id1 → id2 ≡ v.id2 → hint ≡ v.hint
    → (codes "volume_kind", name_json kind) ∷ (codes "second", name_json second) ∷ (codes "children", number_json v.children) ∷ (codes "size", number_json v.size)
    ∷ (codes "partition_type", number_json type) ∷ (codes "guid", guid_json guid) ∷ (codes "id1", maybe_name_json id1) ∷ (codes "id2", maybe_name_json id2)
    ∷ (codes "size2", maybe_json v.size2) ∷ (codes "drive_hint", maybe_name_json hint) ∷ [] ≡ volume_members v
unfolding volume_members
volume_is v kind second type guid id1 id2 hint a b c d e f h = rw (a, b, c, d, e, f, h) refl

pub component_is : (c : Component) (state : List ℕ) (layout : ℕ) (chunk columns : Option ℕ) → state ≡ c.state → layout ≡ c.layout → chunk ≡ option_map (λ s. s.chunk) c.striping
    → columns ≡ option_map (λ s. s.columns) c.striping
    → (codes "state", name_json state) ∷ (codes "layout_type", number_json layout) ∷ (codes "children", number_json c.children) ∷ (codes "parent", number_json c.parent)
    ∷ (codes "stripe_size", maybe_json chunk) ∷ (codes "columns", maybe_json columns) ∷ [] ≡ component_members c
unfolding component_members
component_is c state layout chunk columns a b d e = rw (a, b, d, e) refl

pub record_is : (r : Record) (head : Head) (kind type name : List ℕ) (len mark flags : ℕ) → kind ≡ kind_text r → type ≡ type_of r → name ≡ head.name → len ≡ own_len r → mark ≡ head.mark
    → flags ≡ head.flags → head ≡ record_head r
    → json_object ((
    (codes "kind", string kind) ∷ (codes "type", string type) ∷ (codes "id", number_json head.id) ∷ (codes "name", name_json name) ∷ (codes "length", number_json len)
    ∷ (codes "mark", number_json mark) ∷ (codes "flags", number_json flags) ∷ []) ++ own_members r) ≡ record_json r
unfolding common_members record_json
record_is r head kind type name len mark flags a b c d e f h = rw (a, b, c, d, e, f, h) refl

pub copy_is : (db : Database) (header : Header) (name : List ℕ) (last : ℕ) (records : List Record) → header ≡ db.header → name ≡ header.name → last ≡ header.last → records ≡ db.records
    → json_object (
    (codes "state", string (codes "open")) ∷ (codes "name", name_json name) ∷ (codes "guid", guid_json header.guid) ∷ (codes "sequence", number_json header.seq)
    ∷ (codes "last", number_json last) ∷ (codes "records", json_array (map record_json records)) ∷ []) ≡ records_json (Valid db)
copy_is db header name last records h n l r = rw (n, l, r, h) refl
