-- The shapes of `Peer`, and the content of their values. Written by `scripts/second_format`.
use Rattle.std.specs.Prelude.{ℕ, map, string_bytes}
use Rattle.std.specs.Box.{boxed_slice_items}
use Rattle.std.specs.Int.NonZero.{non_zero_u16_get}
use Rattle.std.specs.Net.Addr.{ipv4_octets, ipv6_octets}
use Rattle.std.specs.Net.Socket.{v4_ip, v4_port}
use Rattle.std.specs.Rc.{rc_str_bytes}
use Rattle.std.specs.VecDeque.{deque_items}
use Rattle.bitcode_shapes.specs.Addresses.{ip_family}
use Rattle.bitcode_serde_types.specs.Arrays.{array_tree, array_datum, repeated_sound, repeated_plain}
use Rattle.bitcode_serde_types.specs.Checked.{nonzero_natural_tree}
use Rattle.bitcode_serde_types.specs.Durations.{duration_tree, duration_datum}
use Rattle.bitcode_serde_types.specs.Written.{Datum, text, list, tuple, no_data, datum_and, data_of, width_1, width_2, width_4, width_8, natural, ShapeTree, natural_tree, text_tree, seq_tree, tuple_tree, no_trees, tree_and, IsSound, KeepsAll, result_tree, result_datum}
use Rattle.bitcode_recursive_types.specs.declared.peer.Peer.{Peer}

-- the shape of `Peer`
abbrev pub peer_tree : ℕ → ShapeTree
peer_tree left = tuple_tree (tree_and (result_tree (array_tree 4 (natural_tree 1)) (array_tree 16 (natural_tree 1))) (tree_and (tuple_tree (tree_and (array_tree 4 (natural_tree 1)) (tree_and (natural_tree 2) no_trees))) (tree_and (array_tree 4 (natural_tree 1)) (tree_and (seq_tree (natural_tree 2)) (tree_and (seq_tree text_tree) (tree_and text_tree (tree_and (nonzero_natural_tree 2) (tree_and duration_tree no_trees))))))))

abbrev pub peer_datum : Peer → Datum
peer_datum t = tuple (datum_and (result_datum (λ a. array_datum natural (ipv4_octets a)) (λ a. array_datum natural (ipv6_octets a)) (ip_family t.address)) (datum_and (tuple (datum_and (array_datum natural (ipv4_octets (v4_ip t.listens))) (datum_and (natural (v4_port t.listens)) no_data))) (datum_and (array_datum natural t.key) (datum_and (list (data_of (map natural (deque_items t.waiting)))) (datum_and (list (data_of (map (λ s. text (string_bytes s)) (boxed_slice_items t.names)))) (datum_and (text (rc_str_bytes t.domain)) (datum_and (natural (non_zero_u16_get t.weight)) (datum_and (duration_datum t.seen) no_data))))))))

pub peer_sound : (left : ℕ) → IsSound (peer_tree left)
peer_sound left = (((repeated_sound 4 (natural_tree 1) width_1), ((repeated_sound 16 (natural_tree 1) width_1), tt)), (((repeated_sound 4 (natural_tree 1) width_1), (width_2, tt)), ((repeated_sound 4 (natural_tree 1) width_1), (width_2, (tt, (tt, (width_2, ((width_8, (width_4, tt)), tt))))))))

-- a value keeps all that was read: no map or heap is in it
pub peer_plain : (left : ℕ) → KeepsAll (peer_tree left)
peer_plain left = (((repeated_plain 4 (natural_tree 1) tt), ((repeated_plain 16 (natural_tree 1) tt), tt)), (((repeated_plain 4 (natural_tree 1) tt), (tt, tt)), ((repeated_plain 4 (natural_tree 1) tt), (tt, (tt, (tt, (tt, ((tt, (tt, tt)), tt))))))))
