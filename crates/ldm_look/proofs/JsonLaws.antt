-- What was put together by id says what the records do, and what is made of parts that code names is what the definitions say.
use Rattle.std.proofs.Common.{arith, ◌≡◌, ◌∙◌, ◌++◌, ◌∷◌, [], ◌+◌, ◌<◌, ◌-◌, ◌*◌, ℕ, List, length, get_or, take, map, Option, Some, refl, ap, sym, append_assoc}
use Rattle.std.specs.Prelude.{Bool, flat_map, codes, is_none, slice_get}
use Rattle.std.specs.Option.{option_map}
use Rattle.std.proofs.lemmas.List.{append-nil, flat_map_more, take_more}
use Rattle.json.specs.Token.{Token}
use Rattle.json.specs.Tree.{json_tokens, members_tokens}
use Rattle.json.specs.Json.{string, boolean, null}
use Rattle.json.specs.Token as token
use Rattle.ldm_json.specs.Values.{Member, json_members, json_object, json_array, then_array, closing, number_json, maybe_json, maybe_text_json, name_json, maybe_name_json, guid_json, said_json}
use Rattle.ldm_json.proofs.TokenLaws.{items_are, array_is}
use Rattle.ldm_label.specs.declared.counting.GoodCopies.{GoodCopies}
use Rattle.ldm_label.specs.Present.{image_with, label_with}
use Rattle.ldm_records.specs.declared.types.Disk.{Disk}
use Rattle.ldm_records.specs.declared.types.Volume.{Volume}
use Rattle.ldm_text.specs.Texts.{guid_of_volume}
use Rattle.ldm_copy.specs.declared.found.Found.{Found}
use Rattle.ldm_vmdb.specs.declared.header.Header.{Header}
use Rattle.ldm_group.specs.Room.{need_of, room_of}
use Rattle.ldm_copy.specs.declared.notes.Note.{Note}
use Rattle.ldm_look.specs.declared.scanned.Membership.{Membership}
use Rattle.ldm_look.specs.declared.scanned.Scanned.TheVariants.{Open}
use Rattle.ldm_look.specs.Scan.{scanned_json}
use Rattle.ldm_look.specs.Paths.{path_of}
use Rattle.ldm_look.specs.LabelJson.{label_json, style_word}
use Rattle.ldm_look.specs.declared.fault_json.Named.{Named}
use Rattle.ldm_look.specs.FaultJson.{named_json, refusal_json}
use Rattle.ldm_look.specs.CheckJson.{note_sequence, note_json, kind_json, reason_json, note_jsons, absent_jsons, check_json, check_members, BeginsCheck}
use Rattle.ldm_look.specs.Volumes.{text_of_shape}
use Rattle.json.specs.Json.{Json}
use Rattle.ldm_records.specs.declared.types.Record.{Record}
use Rattle.ldm_records.specs.declared.types.Partition.{Partition}
use Rattle.ldm_records.specs.declared.types.Component.{Component}
use Rattle.ldm_label.specs.declared.Label.{Label}
use Rattle.ldm_space.specs.Free.{Taken}
use Rattle.ldm_space.specs.Gaps.{largest_free}
use Rattle.ldm_group.specs.Partitions.{used_on}
use Rattle.ldm_layout.specs.Parts.{plexes_at, plexes_of}
use Rattle.ldm_layout.specs.Grouped.{Lists, IsListsOf}
use Rattle.ldm_layout.specs.Volumes.{shape_of}
use Rattle.ldm_places.specs.declared.shape.Shape.{Shape}
use Rattle.ldm_look.specs.declared.mapped.MappedDisk.{MappedDisk}
use Rattle.ldm_look.specs.Map.{mapped_at}
use Rattle.ldm_look.specs.States.{state_of, state_word, lost_count}
use Rattle.ldm_look.specs.declared.states.VolumeState.{VolumeState}
use Rattle.ldm_look.specs.ShowJson.{image_sector, in_64_bits, partition_json, component_json, volume_json, shaped_volume, group_json, layout_word, partition_jsons, disk_json, own_partitions, own_components, component_jsons, volume_jsons, all_volume_jsons, disk_jsons}

pub same_disk_jsons : (paths : List (List ℕ)) (used : ℕ → ℕ) (taken : List Taken) (labels : List Label) (zs records : List Record) → ((disk : ℕ) → used disk ≡ used_on zs disk) → zs ≡ records
    → disk_jsons paths used taken labels records ≡ disk_jsons paths (used_on records) taken labels records
same_disk_jsons paths used taken labels zs records is from =
    let alike : used ≡ used_on zs = λ i disk. is disk i in
    ap (λ (f : ℕ → ℕ). disk_jsons paths f taken labels records) (alike ∙ ap used_on from)

same_shapes : (lists : Lists) (records : List Record) → IsListsOf lists records
    → ◌≡◌ {A = ℕ → Option Shape} (λ volume. shape_of (plexes_at volume lists.plexes)) (λ volume. shape_of (plexes_of volume records))
same_shapes lists records h = λ i. λ volume. shape_of (h.plexes_are volume i)

pub same_volume_jsons : (lists : Lists) (disks : ℕ → Option MappedDisk) (partitions : ℕ → List Partition) (components : ℕ → List Component) (found : Found)
    → IsListsOf lists found.db.records → ((id : ℕ) → disks id ≡ mapped_at found.labels found.db.records id) → ((id : ℕ) → partitions id ≡ own_partitions found.db.records id)
    → ((id : ℕ) → components id ≡ own_components found.db.records id)
    → volume_jsons (state_of found) (λ volume. shape_of (plexes_at volume lists.plexes)) (λ volume. component_jsons disks partitions (components volume)) found.db.records
    ≡ all_volume_jsons found
unfolding all_volume_jsons
same_volume_jsons lists disks partitions components found h ds ps cs =
    let records = found.db.records in
    let labels = found.labels in
    let states = state_of found in
    let by_disks : disks ≡ mapped_at labels records = λ i id. ds id i in
    let by_partitions : partitions ≡ own_partitions records = λ i id. ps id i in
    let by_components : components ≡ own_components records = λ i id. cs id i in
    ap (λ (f : ℕ → Option Shape). volume_jsons states f (λ volume. component_jsons disks partitions (components volume)) records) (same_shapes lists records h)
    ∙ ap (λ (f : ℕ → Option MappedDisk). volume_jsons states (λ volume. shape_of (plexes_of volume records)) (λ volume. component_jsons f partitions (components volume)) records) by_disks
    ∙ ap (λ (f : ℕ → List Partition). volume_jsons states (λ volume. shape_of (plexes_of volume records)) (λ volume. component_jsons (mapped_at labels records) f (components volume)) records) by_partitions
    ∙ ap (λ (f : ℕ → List Component). volume_jsons states (λ volume. shape_of (plexes_of volume records)) (λ volume. component_jsons (mapped_at labels records) (own_partitions records) (f volume)) records) by_components

-- ---- objects that end with arrays

abbrev pub member_tokens : Member → List Token
member_tokens m = token.key m.0 ∷ json_tokens m.1

-- the tokens that begin an object with these members and an array of this key
abbrev pub beginning : List Member → List ℕ → List Token
beginning ms key = token.begin_object ∷ (flat_map member_tokens ms ++ (token.key key ∷ token.begin_array ∷ []))

members_are : (ms ns : List Member) → members_tokens (json_members (ms ++ ns)) ≡ flat_map member_tokens ms ++ members_tokens (json_members ns)
members_are [] ns = refl
members_are (m ∷ ms) ns =
    ap (λ (ts : List Token). member_tokens m ++ ts) (members_are ms ns) ∙ sym (append_assoc (member_tokens m) (flat_map member_tokens ms) (members_tokens (json_members ns)))

pub closed_from : (start one two op : List Token) (ms : List Member) (key : List ℕ) (js : List Json) → one ≡ start ++ op → op ≡ beginning ms key → two ≡ one ++ flat_map json_tokens js
    → two ++ closing ≡ start ++ json_tokens (json_object (ms ++ (key, json_array js) ∷ []))
closed_from start one two op ms key js first is second = grind (arith, append_assoc, members_are ms ((key, json_array js) ∷ []), items_are js)

pub both_from : (start one two three four op : List Token) (ms : List Member) (first second : List ℕ) (js ks : List Json) → one ≡ start ++ op → op ≡ beginning ms first
    → two ≡ one ++ flat_map json_tokens js → three ≡ two ++ then_array second → four ≡ three ++ flat_map json_tokens ks
    → four ++ closing ≡ start ++ json_tokens (json_object (ms ++ (first, json_array js) ∷ (second, json_array ks) ∷ []))
both_from start one two three four op ms first second js ks a is b c d =
    grind (arith, append_assoc, members_are ms ((first, json_array js) ∷ (second, json_array ks) ∷ []), items_are js, items_are ks)

-- ---- one item more

pub more_item : {X Y : Type 0} (g : Y → X) (f : X → Json) (xs : List Y) (i : ℕ) (x : Y) (start old new : List Token) → i < length xs → x ≡ get_or xs i x
    → old ≡ start ++ flat_map json_tokens (map f (map g (take i xs))) → new ≡ old ++ json_tokens (f (g x)) → new ≡ start ++ flat_map json_tokens (map f (map g (take (i + 1) xs)))
more_item {X} {Y} g f xs i x start old new lt is before after =
    after ∙ ap (λ (ts : List Token). ts ++ json_tokens (f (g x))) before
    ∙ flat_map_more json_tokens start (map f (map g (take i xs))) (f (g x))
    ∙ ap (λ (js : List Json). start ++ flat_map json_tokens js) (whole (take i xs) x ∙ ap (λ (ys : List Y). map f (map g ys)) (sym (take_more xs i x lt ∙ ap (λ (y : Y). take i xs ++ y ∷ []) (sym is))))
  where
    whole : (ys : List Y) (y : Y) → map f (map g ys) ++ f (g y) ∷ [] ≡ map f (map g (ys ++ y ∷ []))
    whole [] y = refl
    whole (z ∷ ys) y = ap (λ (js : List Json). f (g z) ∷ js) (whole ys y)

-- ---- objects by their parts

pub partition_is : (disk : Option MappedDisk) (p : Partition) (name : List ℕ) (disk_name : Option (List ℕ)) (at : Option ℕ)
    → name ≡ p.head.name → disk_name ≡ option_map (λ d. d.name) disk → at ≡ image_sector disk p.start
    → json_object (
    (codes "id", number_json p.head.id) ∷ (codes "name", name_json name) ∷ (codes "disk", maybe_name_json disk_name) ∷ (codes "disk_id", number_json p.disk)
    ∷ (codes "start", number_json p.start) ∷ (codes "image_start", maybe_json at) ∷ (codes "size", number_json p.size) ∷ (codes "offset", number_json p.offset)
    ∷ (codes "index", maybe_json p.index) ∷ []) ≡ partition_json disk p
partition_is disk p name disk_name at a b c = rw (a, b, c) refl

pub component_is : (disks : ℕ → Option MappedDisk) (partitions : List Partition) (c : Component) (name layout : List ℕ) (chunk columns : Option ℕ)
    → name ≡ c.head.name → layout ≡ layout_word c.layout → chunk ≡ option_map (λ s. s.chunk) c.striping → columns ≡ option_map (λ s. s.columns) c.striping
    → json_object (
    (codes "id", number_json c.head.id) ∷ (codes "name", name_json name) ∷ (codes "layout", string layout) ∷ (codes "chunk", maybe_json chunk) ∷ (codes "columns", maybe_json columns)
    ∷ (codes "partitions", json_array (partition_jsons disks partitions)) ∷ []) ≡ component_json disks partitions c
component_is disks partitions c name layout chunk columns n l k m = rw (n, l, k, m) refl

pub volume_is : (components : List Json) (v : Volume) (state : VolumeState) (shape : Shape) (name word state_text : List ℕ) (guid : ℕ) (bytes lost : Option ℕ) (hint : Option (List ℕ))
    → name ≡ v.head.name → guid ≡ guid_of_volume v → word ≡ text_of_shape shape → bytes ≡ in_64_bits (v.size * 512) → state_text ≡ state_word state → lost ≡ lost_count state → hint ≡ v.hint
    → json_object (
    (codes "id", number_json v.head.id) ∷ (codes "name", name_json name) ∷ (codes "guid", guid_json guid) ∷ (codes "type", string word) ∷ (codes "size", number_json v.size)
    ∷ (codes "bytes", maybe_json bytes) ∷ (codes "state", string state_text) ∷ (codes "lost_sectors", maybe_json lost) ∷ (codes "hint", maybe_name_json hint)
    ∷ (codes "components", json_array components) ∷ []) ≡ volume_json components v state shape
volume_is components v state shape name word state_text guid bytes lost hint n g w b s l h = rw (n, g, w, b, s, l, h) refl

pub disk_is : (paths : List (List ℕ)) (used : ℕ) (taken : List Taken) (labels : List Label) (d : Disk) (name : List ℕ) (at image : Option ℕ) (path : Option (List ℕ)) (start size free largest : Option ℕ) (label : Option Label)
    → name ≡ d.head.name → at ≡ image → path ≡ path_of paths image → image ≡ image_with d.guid labels → label ≡ label_with d.guid labels → start ≡ option_map (λ l. l.data_start) label
    → size ≡ option_map (λ l. l.data_size) label → free ≡ option_map (λ l. l.data_size - used) label
    → largest ≡ option_map (λ l. largest_free taken d.head.id l.data_size) label
    → json_object (
    (codes "id", number_json d.head.id) ∷ (codes "name", name_json name) ∷ (codes "guid", guid_json d.guid) ∷ (codes "image", maybe_json at) ∷ (codes "path", maybe_text_json path)
    ∷ (codes "data_start", maybe_json start) ∷ (codes "data_size", maybe_json size) ∷ (codes "free", maybe_json free) ∷ (codes "largest_free", maybe_json largest) ∷ [])
    ≡ disk_json paths used taken labels d
disk_is paths used taken labels d name at image path start size free largest label n t p i l a b c e = rw (n, t, p, i, a, b, c, e, l) refl

-- ---- values that stand alone

pub array_from : (one two three four : List Token) (js : List Json) → one ≡ [] → two ≡ one ++ token.begin_array ∷ [] → three ≡ two ++ flat_map json_tokens js → four ≡ three ++ token.end_array ∷ []
    → four ≡ json_tokens (json_array js)
array_from one two three four js a b c d = grind (arith, append_assoc, array_is js)

pub alone : (one two op : List Token) (j : Json) → one ≡ [] → two ≡ one ++ op → op ≡ json_tokens j → two ≡ json_tokens j
alone one two op j a b is = b ∙ ap (λ (ts : List Token). ts ++ op) a ∙ is

pub closed_alone : (one two three four op : List Token) (ms : List Member) (key : List ℕ) (js : List Json) → one ≡ [] → two ≡ one ++ op → op ≡ beginning ms key → three ≡ two ++ flat_map json_tokens js
    → four ≡ three ++ closing → four ≡ json_tokens (json_object (ms ++ (key, json_array js) ∷ []))
closed_alone one two three four op ms key js a b is c d =
    d ∙ closed_from one two three op ms key js b is c ∙ ap (λ (ts : List Token). ts ++ json_tokens (json_object (ms ++ (key, json_array js) ∷ []))) a

pub both_alone : (one two three four five op : List Token) (ms : List Member) (first second : List ℕ) (js ks : List Json) → one ≡ [] → two ≡ one ++ op → op ≡ beginning ms first
    → three ≡ two ++ flat_map json_tokens js → four ≡ three ++ then_array second → five ≡ four ++ flat_map json_tokens ks
    → five ++ closing ≡ json_tokens (json_object (ms ++ (first, json_array js) ∷ (second, json_array ks) ∷ []))
both_alone one two three four five op ms first second js ks a b is c d e =
    both_from one two three four five op ms first second js ks b is c d e
    ∙ ap (λ (ts : List Token). ts ++ json_tokens (json_object (ms ++ (first, json_array js) ∷ (second, json_array ks) ∷ []))) a

-- an object that ends with three arrays, of tokens that stand alone
three_alone : (one two three four five op : List Token) (ms : List Member) (first second third : List ℕ) (js ks ls : List Json) → one ≡ [] → two ≡ one ++ op → op ≡ beginning ms first
    → three ≡ two ++ flat_map json_tokens js → four ≡ three ++ then_array second → five ≡ four ++ flat_map json_tokens ks
    → ((five ++ then_array third) ++ flat_map json_tokens ls) ++ closing ≡ json_tokens (json_object (ms ++ (first, json_array js) ∷ (second, json_array ks) ∷ (third, json_array ls) ∷ []))
three_alone one two three four five op ms first second third js ks ls z a is b c d =
    grind (arith, append_assoc, members_are ms ((first, json_array js) ∷ (second, json_array ks) ∷ (third, json_array ls) ∷ []), items_are js, items_are ks, items_are ls)

check_is : (paths : List (List ℕ)) (goods : List GoodCopies) (found : Found) (editable : Bool) (kind reason : Json) (notes : List Note) → editable ≡ is_none found.blocked → kind ≡ kind_json found.blocked
    → reason ≡ reason_json found.blocked → notes ≡ found.notes
    → json_object ((codes "editable", boolean editable) ∷ (codes "kind", kind) ∷ (codes "reason", reason) ∷ (codes "images", json_array (note_jsons paths goods notes))
    ∷ (codes "absent", json_array (absent_jsons found.labels found.db.records)) ∷ []) ≡ check_json paths goods found
check_is paths goods found editable kind reason notes a b c d = rw (a, b, c, d) refl

-- what `check` begins with
pub begins_check : (one two three four five op : List Token) (paths : List (List ℕ)) (goods : List GoodCopies) (found : Found) (editable : Bool) (kind reason : Json) (notes : List Note)
    → editable ≡ is_none found.blocked → kind ≡ kind_json found.blocked → reason ≡ reason_json found.blocked → notes ≡ found.notes
    → one ≡ [] → two ≡ one ++ op → op ≡ beginning ((codes "editable", boolean editable) ∷ (codes "kind", kind) ∷ (codes "reason", reason) ∷ []) (codes "images")
    → three ≡ two ++ flat_map json_tokens (note_jsons paths goods notes) → four ≡ three ++ then_array (codes "absent")
    → five ≡ four ++ flat_map json_tokens (absent_jsons found.labels found.db.records) → BeginsCheck paths goods found five
begins_check one two three four five op paths goods found editable kind reason notes a b c d z e is f g h =
    let ms : List Member = (codes "editable", boolean editable) ∷ (codes "kind", kind) ∷ (codes "reason", reason) ∷ [] in
    let ns : List Json = note_jsons paths goods notes in
    let absent : List Json = absent_jsons found.labels found.db.records in
    record {
      ends = both_alone one two three four five op ms (codes "images") (codes "absent") ns absent z e is f g h ∙ ap json_tokens (check_is paths goods found editable kind reason notes a b c d);
      goes_on = λ key values. three_alone one two three four five op ms (codes "images") (codes "absent") key ns absent values z e is f g h
          ∙ ap json_tokens (more_is key values);
    }
  where
    more_is : (key : List ℕ) (values : List Json)
        → json_object ((codes "editable", boolean editable) ∷ (codes "kind", kind) ∷ (codes "reason", reason) ∷ (codes "images", json_array (note_jsons paths goods notes))
        ∷ (codes "absent", json_array (absent_jsons found.labels found.db.records)) ∷ (key, json_array values) ∷ [])
        ≡ json_object (check_members paths goods found ++ (key, json_array values) ∷ [])
    more_is key values = rw (a, b, c, d) refl

pub open_is : (paths : List (List ℕ)) (image : ℕ) (path : Option (List ℕ)) (m : Membership) (group : List ℕ) (disk : Option (List ℕ)) (word : List ℕ) → path ≡ slice_get paths image → group ≡ m.group → disk ≡ m.disk
    → word ≡ style_word m.style
    → json_object (
    (codes "image", number_json image) ∷ (codes "path", maybe_text_json path) ∷ (codes "state", string (codes "open")) ∷ (codes "group", name_json group)
    ∷ (codes "group_guid", guid_json m.group_guid) ∷ (codes "disk", maybe_name_json disk) ∷ (codes "disk_guid", guid_json m.disk_guid)
    ∷ (codes "sequence", number_json m.seq) ∷ (codes "reason", null) ∷ (codes "format", null) ∷ (codes "partition_style", string word) ∷ []) ≡ scanned_json paths (image, Open m)
open_is paths image path m group disk word p a b w = rw (p, a, b, w) refl

pub label_is : (label : Label) (minor : ℕ) (word : List ℕ) → minor ≡ label.minor → word ≡ style_word label.style
    → json_object (
    (codes "sector_size", number_json 512) ∷ (codes "guid", guid_json label.disk_guid) ∷ (codes "version_minor", number_json minor) ∷ (codes "data_start", number_json label.data_start)
    ∷ (codes "data_size", number_json label.data_size) ∷ (codes "database_start", number_json label.config_start) ∷ (codes "database_size", number_json 2048)
    ∷ (codes "area_start", number_json label.area_start) ∷ (codes "area_size", number_json label.area_sectors) ∷ (codes "log_start", number_json label.log_start)
    ∷ (codes "log_size", number_json label.log_sectors) ∷ (codes "partition_style", string word) ∷ []) ≡ label_json label
label_is label minor word a w = rw (a, w) refl

pub note_is : (paths : List (List ℕ)) (goods : List GoodCopies) (image : ℕ) (note : Note) (path : Option (List ℕ)) (seq headers tables : Option ℕ) → path ≡ slice_get paths image
    → seq ≡ note_sequence note → headers ≡ option_map (λ good. good.headers) (slice_get goods image) → tables ≡ option_map (λ good. good.tables) (slice_get goods image)
    → json_object ((codes "image", number_json image) ∷ (codes "path", maybe_text_json path) ∷ (codes "sequence", maybe_json seq) ∷ (codes "headers", maybe_json headers) ∷ (codes "tables", maybe_json tables) ∷ [])
    ≡ note_json paths goods (image, note)
note_is paths goods image note path seq headers tables p s h t = rw (p, s, h, t) refl

pub refusal_is : (paths : List (List ℕ)) (kind text : List ℕ) (named : Named) (image other : Option ℕ) (path other_path : Option (List ℕ))
    → image ≡ named.image → path ≡ path_of paths named.image → other ≡ named.other → other_path ≡ path_of paths named.other
    → json_object ((
      codes "refused",
      json_object (
          (codes "kind", string kind) ∷ (codes "image", maybe_json image) ∷ (codes "path", maybe_text_json path) ∷ (codes "other_image", maybe_json other)
          ∷ (codes "other_path", maybe_text_json other_path) ∷ (codes "rule", maybe_json named.rule) ∷ (codes "id", maybe_json named.id) ∷ (codes "reason", said_json text) ∷ []),
    ) ∷ []) ≡ refusal_json (named_json paths kind named text)
refusal_is paths kind text named image other path other_path i p o q = rw (i, p, o, q) refl

pub group_is : (disks volumes : List Json) (found : Found) (header : Header) (name : List ℕ) (need room : ℕ) → header ≡ found.db.header → name ≡ header.name
    → need ≡ need_of found.db.records → room ≡ room_of found.db.header.last
    → json_object (
    (codes "sector_size", number_json 512) ∷ (codes "name", name_json name) ∷ (codes "guid", guid_json header.guid) ∷ (codes "sequence", number_json header.seq)
    ∷ (codes "blocks", number_json need) ∷ (codes "blocks_room", number_json room) ∷ (codes "disks", json_array disks) ∷ (codes "volumes", json_array volumes) ∷ [])
    ≡ group_json disks volumes found
group_is disks volumes found header name need room h n a b = rw (n, a, b, h) refl

-- what is said of the volume of a shape
pub volume_from : (start one two op : List Token) (ms : List Member) (js : List Json) (v : Volume) (state : VolumeState) (shape : Shape) (some : Option Shape) → one ≡ start ++ op → op ≡ beginning ms (codes "components")
    → two ≡ one ++ flat_map json_tokens js → json_object (ms ++ (codes "components", json_array js) ∷ []) ≡ volume_json js v state shape → some ≡ Some shape
    → two ++ closing ≡ start ++ flat_map json_tokens (shaped_volume js v state some)
volume_from start one two op ms js v state shape some first at second is there =
    closed_from start one two op ms (codes "components") js first at second
    ∙ ap (λ (ts : List Token). start ++ ts) (ap json_tokens is ∙ sym (append-nil (json_tokens (volume_json js v state shape))))
    ∙ ap (λ (s : Option Shape). start ++ flat_map json_tokens (shaped_volume js v state s)) (sym there)
