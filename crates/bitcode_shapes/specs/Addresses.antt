-- Addresses: an IP address corresponds to the number that its octets spell, one of either family to a result, and a
-- socket address to its parts.
use Rattle.std.proofs.Common.{◌≡◌, ℕ, ◌+◌, ◌^◌, ◌<◌, Ok, Err, List, [], ◌∷◌, length, refl, sym, ◌∙◌, ap, subst, false, pos, arith}
use Rattle.std.specs.Prelude.{Result, All}
use Rattle.std.specs.Int.{bytes_high_first, from_be_bytes, to_be_bytes, w32, w128}
use Rattle.std.specs.Net.Addr.{IsIpv4OfBits, IsIpv6OfBits, ipv4_bits, ipv4_octets, ipv6_bits, ipv6_octets, ipv6_segments, octets_of, segments_of}
use Rattle.std.specs.declared.net.ip_addr.IpAddr.{IpAddr}
use Rattle.std.specs.declared.net.ip_addr.IpAddr.TheVariants as Ip
use Rattle.std.specs.declared.net.ipv4_addr.Ipv4Addr.{Ipv4Addr}
use Rattle.std.specs.declared.net.ipv6_addr.Ipv6Addr.{Ipv6Addr}
use Rattle.std.specs.declared.net.socket_addr.SocketAddr.{SocketAddr}
use Rattle.std.specs.declared.net.socket_addr.SocketAddr.TheVariants as Socket
use Rattle.std.specs.declared.net.socket_addr.SocketAddrV4.{SocketAddrV4}
use Rattle.std.specs.declared.net.socket_addr.SocketAddrV6.{SocketAddrV6}
use Rattle.std.proofs.NetLemmas.Arrays.{sixteen_items}
use Rattle.bitcode_shapes.specs.Arrays.{IsArrayValue}
use Rattle.bitcode_shapes.specs.CompareAlike.{texts_alike}
use Rattle.bitcode_shapes.specs.DataOf.{DataOf, data_where}
use Rattle.bitcode_shapes.specs.Ints.{IsValueOfWidth}
use Rattle.bitcode_shapes.specs.KeyLaws.{natural_once, texts_equal}
use Rattle.bitcode_shapes.specs.LawfulInts.{width_16, width_4}
use Rattle.bitcode_shapes.specs.LeafData.{unsigned_data}
use Rattle.bitcode_shapes.specs.Octets.{AreOctets, IsSegment, high_length, high_octets, number_below, number_of, octets_again, octets_fit, octets_length, octets_once, segments_again, segments_fit, spelled}

-- ---- of four octets

abbrev pub IsIpv4 : Ipv4Addr → Type 0
IsIpv4 a = IsArrayValue 4 (IsValueOfWidth 1 false pos) (ipv4_octets a)

number_of_4 : (bs : List ℕ) → length bs ≡ 4 → from_be_bytes w32 bs ≡ number_of bs
number_of_4 [] l = absurd (omega arith)
number_of_4 (a ∷ []) l = absurd (omega arith)
number_of_4 (a ∷ b ∷ []) l = absurd (omega arith)
number_of_4 (a ∷ b ∷ c ∷ []) l = absurd (omega arith)
number_of_4 (a ∷ b ∷ c ∷ d ∷ []) l = omega arith
number_of_4 (a ∷ b ∷ c ∷ d ∷ e ∷ bs) l = absurd (omega arith)

ipv4_number : (a : Ipv4Addr) → length (ipv4_octets a) ≡ 4 → ipv4_bits a ≡ number_of (ipv4_octets a)
unfolding ipv4_bits
ipv4_number a l = number_of_4 (ipv4_octets a) l

pub ipv4_fits : (a : Ipv4Addr) → IsIpv4 a → ipv4_bits a < 256 ^ 4
ipv4_fits a h =
    let below = number_below (ipv4_octets a) h.each in
    subst (λ n. n < 256 ^ 4) (sym (ipv4_number a h.count)) (subst (λ k. number_of (ipv4_octets a) < 256 ^ k) h.count below)

pub ipv4_of_bits : (a : Ipv4Addr) (n : ℕ) → n < 256 ^ 4 → IsIpv4OfBits a n → IsIpv4 a × (ipv4_bits a ≡ n)
unfolding IsIpv4OfBits
ipv4_of_bits a n h is =
    let count : length (ipv4_octets a) ≡ 4 = ap length is ∙ high_length 4 n in
    (record { each = subst AreOctets (sym is) (high_octets 4 n); count = count }, ipv4_number a count ∙ ap number_of is ∙ spelled 4 n h)

abbrev ipv4_from : List ℕ → Ipv4Addr
ipv4_from octets = record { octets = octets }

pub ipv4_found : (n : ℕ) → n < 256 ^ 4 → (a : Ipv4Addr) × (IsIpv4 a × (ipv4_bits a ≡ n))
ipv4_found n h = (ipv4_from (to_be_bytes w32 n), ipv4_of_bits (ipv4_from (to_be_bytes w32 n)) n h (unfold IsIpv4OfBits in refl))

pub ipv4_once : (a b : Ipv4Addr) → IsIpv4 a → IsIpv4 b → ipv4_bits a ≡ ipv4_bits b → a ≡ b
ipv4_once a b h i same =
    ap ipv4_from (octets_once (ipv4_octets a) (ipv4_octets b) (h.count ∙ sym i.count) h.each i.each
    (sym (ipv4_number a h.count) ∙ same ∙ ipv4_number b i.count))

abbrev pub ipv4_data : DataOf Ipv4Addr
ipv4_data =
    data_where ipv4_bits IsIpv4 (unsigned_data 4 width_4) ipv4_fits ipv4_found ipv4_once (texts_alike ipv4_octets)
    (λ a b h i s. texts_equal IsIpv4 ipv4_octets a b h i (ap ipv4_octets (ipv4_once a b h i (natural_once s))))

-- ---- of eight segments

abbrev pub IsIpv6 : Ipv6Addr → Type 0
IsIpv6 a = IsArrayValue 8 (IsValueOfWidth 2 false pos) (ipv6_segments a)

spelled_by_16 : (a b c d e f g h i j k l m n o p : ℕ)
    → from_be_bytes w128 (a ∷ b ∷ c ∷ d ∷ e ∷ f ∷ g ∷ h ∷ i ∷ j ∷ k ∷ l ∷ m ∷ n ∷ o ∷ p ∷ [])
    ≡ number_of (a ∷ b ∷ c ∷ d ∷ e ∷ f ∷ g ∷ h ∷ i ∷ j ∷ k ∷ l ∷ m ∷ n ∷ o ∷ p ∷ [])
spelled_by_16 a b c d e f g h i j k l m n o p = omega arith

number_of_16 : (bs : List ℕ) → length bs ≡ 16 → from_be_bytes w128 bs ≡ number_of bs
number_of_16 bs l = subst (λ cs. from_be_bytes w128 cs ≡ number_of cs) (sym (sixteen_items bs l)) (spelled_by_16 _ _ _ _ _ _ _ _ _ _ _ _ _ _ _ _)

-- eight segments have sixteen octets
ipv6_count : (a : Ipv6Addr) → length (ipv6_segments a) ≡ 8 → length (ipv6_octets a) ≡ 16
ipv6_count a l = octets_length (ipv6_segments a) ∙ ap (λ k. k + k) l

ipv6_number : (a : Ipv6Addr) → length (ipv6_segments a) ≡ 8 → ipv6_bits a ≡ number_of (ipv6_octets a)
unfolding ipv6_bits
ipv6_number a l = number_of_16 (ipv6_octets a) (ipv6_count a l)

pub ipv6_fits : (a : Ipv6Addr) → IsIpv6 a → ipv6_bits a < 256 ^ 16
ipv6_fits a h =
    let below = number_below (ipv6_octets a) (octets_fit (ipv6_segments a) h.each) in
    subst (λ n. n < 256 ^ 16) (sym (ipv6_number a h.count)) (subst (λ k. number_of (ipv6_octets a) < 256 ^ k) (ipv6_count a h.count) below)

pub ipv6_of_bits : (a : Ipv6Addr) (n : ℕ) → n < 256 ^ 16 → IsIpv6OfBits a n → IsIpv6 a × (ipv6_bits a ≡ n)
unfolding IsIpv6OfBits
ipv6_of_bits a n h is =
    let count : length (ipv6_segments a) ≡ 8 = ap length is in
    let octets : ipv6_octets a ≡ bytes_high_first 16 n = ap octets_of is ∙ octets_again (bytes_high_first 16 n) 8 (high_length 16 n) (high_octets 16 n) in (
      record { each = subst (λ segments. All IsSegment segments) (sym is) (segments_fit (bytes_high_first 16 n) (high_octets 16 n)); count = count },
      ipv6_number a count ∙ ap number_of octets ∙ spelled 16 n h,
    )

abbrev ipv6_from : List ℕ → Ipv6Addr
ipv6_from segments = record { segments = segments }

pub ipv6_found : (n : ℕ) → n < 256 ^ 16 → (a : Ipv6Addr) × (IsIpv6 a × (ipv6_bits a ≡ n))
ipv6_found n h =
    let a = ipv6_from (segments_of (to_be_bytes w128 n)) in
    (a, ipv6_of_bits a n h (unfold IsIpv6OfBits in refl))

pub ipv6_once : (a b : Ipv6Addr) → IsIpv6 a → IsIpv6 b → ipv6_bits a ≡ ipv6_bits b → a ≡ b
ipv6_once a b h i same =
    let octets : ipv6_octets a ≡ ipv6_octets b =
    octets_once (ipv6_octets a) (ipv6_octets b) (ipv6_count a h.count ∙ sym (ipv6_count b i.count))
    (octets_fit (ipv6_segments a) h.each) (octets_fit (ipv6_segments b) i.each)
    (sym (ipv6_number a h.count) ∙ same ∙ ipv6_number b i.count)
    in
    ap ipv6_from (sym (segments_again (ipv6_segments a)) ∙ ap segments_of octets ∙ segments_again (ipv6_segments b))

abbrev pub ipv6_data : DataOf Ipv6Addr
ipv6_data =
    data_where ipv6_bits IsIpv6 (unsigned_data 16 width_16) ipv6_fits ipv6_found ipv6_once (texts_alike ipv6_segments)
    (λ a b h i s. texts_equal IsIpv6 ipv6_segments a b h i (ap ipv6_segments (ipv6_once a b h i (natural_once s))))

-- ---- of either family: a result, whose `Ok` is IPv4

abbrev pub ip_family : IpAddr → Result Ipv4Addr Ipv6Addr
ip_family (Ip.V4 a) = Ok a
ip_family (Ip.V6 a) = Err a

pub ip_found : (r : Result Ipv4Addr Ipv6Addr) → (a : IpAddr) × (ip_family a ≡ r)
ip_found (Ok a) = (Ip.V4 a, refl)
ip_found (Err a) = (Ip.V6 a, refl)

pub ip_again : (a : IpAddr) → (ip_found (ip_family a)).0 ≡ a
unfolding ip_found
ip_again (Ip.V4 a) = refl
ip_again (Ip.V6 a) = refl

abbrev pub socket_family : SocketAddr → Result SocketAddrV4 SocketAddrV6
socket_family (Socket.V4 a) = Ok a
socket_family (Socket.V6 a) = Err a

pub socket_found : (r : Result SocketAddrV4 SocketAddrV6) → (a : SocketAddr) × (socket_family a ≡ r)
socket_found (Ok a) = (Socket.V4 a, refl)
socket_found (Err a) = (Socket.V6 a, refl)

pub socket_again : (a : SocketAddr) → (socket_found (socket_family a)).0 ≡ a
unfolding socket_found
socket_again (Socket.V4 a) = refl
socket_again (Socket.V6 a) = refl
