-- Which addresses a listed host leads to (RFC 6890 has the networks that nobody reaches from outside).
use Rattle.std.specs.Prelude.{◌≡◌, ℕ, ◌/◌, ◌%◌, Bool, true, false, not, ◌&&◌, ◌||◌, ◌==◌, nat_le, List, [], ◌∷◌, take}
use Rattle.std.specs.Prelude.{slice_index, bytes_eq, codes}
use Rattle.std.specs.List.{list_all}
use Rattle.std.specs.declared.net.ip_addr.IpAddr.{IpAddr}
use Rattle.std.specs.declared.net.ip_addr.IpAddr.TheVariants.{V4, V6}
use Rattle.std.specs.Net.Addr.{ipv4_octets, ipv6_segments}
use Rattle.url.specs.declared.host.Host.{Host}
use Rattle.url.specs.declared.host.Host.TheVariants.{Domain, Ipv4, Ipv6}

-- An IPv4 address is internal by its first three octets: 0.0.0.0/8 (this network), 10.0.0.0/8, 172.16.0.0/12 and
-- 192.168.0.0/16 (private), 100.64.0.0/10 (shared), 127.0.0.0/8 (this machine), 169.254.0.0/16 (link-local),
-- 192.0.0.0/24 (of protocols), 198.18.0.0/15 (of measurements), and all from 224.0.0.0 on (multicast, reserved and
-- broadcast).
abbrev pub is_internal_v4 : ℕ → ℕ → ℕ → Bool
is_internal_v4 first second third =
    first == 0 || first == 10 || first == 127 || nat_le 224 first
    || (first == 100 && nat_le 64 second && nat_le second 127)
    || (first == 169 && second == 254)
    || (first == 172 && nat_le 16 second && nat_le second 31)
    || (first == 192 && (second == 168 || (second == 0 && third == 0)))
    || (first == 198 && (second == 18 || second == 19))

-- the segments of an IPv6 address that stands for an IPv4 one: `::ffff:a.b.c.d` or `::a.b.c.d`
abbrev pub holds_v4 : List ℕ → Bool
holds_v4 segments =
    list_all (λ segment. segment == 0) (take 5 segments)
    && (slice_index segments 5 == 0 || slice_index segments 5 == 0xffff)

-- An IPv6 address is internal from fc00:: on (unique-local, link-local, site-local and multicast), and where it stands
-- for an internal IPv4 address. So are `::` and `::1`, which are written for 0.0.0.0 and 0.0.0.1.
abbrev pub is_internal_v6 : List ℕ → Bool
is_internal_v6 segments =
    nat_le 0xfc00 (slice_index segments 0)
    || (holds_v4 segments
    && is_internal_v4 (slice_index segments 6 / 256) (slice_index segments 6 % 256) (slice_index segments 7 / 256))

-- the address is one of this machine, of a network of its own, or of no one machine
abbrev pub is_internal : IpAddr → Bool
is_internal (V4 address) =
    is_internal_v4 (slice_index (ipv4_octets address) 0) (slice_index (ipv4_octets address) 1)
    (slice_index (ipv4_octets address) 2)
is_internal (V6 address) = is_internal_v6 (ipv6_segments address)

-- a host that is a name leads to no internal address, and one that is an address to just that address
abbrev pub is_allowed : Host (List ℕ) → IpAddr → Bool
is_allowed (Domain name) address = not (is_internal address)
is_allowed (Ipv4 own) (V4 address) = bytes_eq (ipv4_octets own) (ipv4_octets address)
is_allowed (Ipv4 own) (V6 address) = false
is_allowed (Ipv6 own) (V4 address) = false
is_allowed (Ipv6 own) (V6 address) = bytes_eq (ipv6_segments own) (ipv6_segments address)

-- the address a.b.c.d
abbrev pub v4 : ℕ → ℕ → ℕ → ℕ → IpAddr
v4 a b c d = V4 (record { octets = a ∷ b ∷ c ∷ d ∷ [] })

-- the address of eight segments, of which these are the first and the last three, and the others 0
abbrev pub v6 : ℕ → ℕ → ℕ → ℕ → IpAddr
v6 a f g h = V6 (record { segments = a ∷ 0 ∷ 0 ∷ 0 ∷ 0 ∷ f ∷ g ∷ h ∷ [] })

-- a listed name leads there
abbrev pub IsReached : IpAddr → Type 0
IsReached address = is_allowed (Domain (codes "a.example")) address ≡ true

-- a listed name doesn't lead there
abbrev pub IsKeptFrom : IpAddr → Type 0
IsKeptFrom address = is_allowed (Domain (codes "a.example")) address ≡ false

-- worked examples, on both sides of each border
pub record AreAddresses : Type 0 where
  pub this_network : IsKeptFrom (v4 0 0 0 0) × IsKeptFrom (v4 0 255 255 255) × IsReached (v4 1 0 0 0)
  pub private_10 : IsReached (v4 9 255 255 255) × IsKeptFrom (v4 10 0 0 0) × IsKeptFrom (v4 10 255 255 255)
      × IsReached (v4 11 0 0 0)
  pub shared : IsReached (v4 100 63 255 255) × IsKeptFrom (v4 100 64 0 0) × IsKeptFrom (v4 100 127 255 255)
      × IsReached (v4 100 128 0 0)
  pub loopback : IsReached (v4 126 255 255 255) × IsKeptFrom (v4 127 0 0 0) × IsKeptFrom (v4 127 255 255 255)
      × IsReached (v4 128 0 0 0)
  pub link_local : IsReached (v4 169 253 255 255) × IsKeptFrom (v4 169 254 0 0) × IsKeptFrom (v4 169 254 255 255)
      × IsReached (v4 169 255 0 0)
  pub private_172 : IsReached (v4 172 15 255 255) × IsKeptFrom (v4 172 16 0 0) × IsKeptFrom (v4 172 31 255 255)
      × IsReached (v4 172 32 0 0)
  pub private_192 : IsReached (v4 192 167 255 255) × IsKeptFrom (v4 192 168 0 0) × IsKeptFrom (v4 192 168 255 255)
      × IsReached (v4 192 169 0 0)
  pub protocols : IsReached (v4 191 255 255 255) × IsKeptFrom (v4 192 0 0 0) × IsKeptFrom (v4 192 0 0 255)
      × IsReached (v4 192 0 1 0)
  pub measurements : IsReached (v4 198 17 255 255) × IsKeptFrom (v4 198 18 0 0) × IsKeptFrom (v4 198 19 255 255)
      × IsReached (v4 198 20 0 0)
  pub multicast : IsReached (v4 223 255 255 255) × IsKeptFrom (v4 224 0 0 0) × IsKeptFrom (v4 255 255 255 255)
  pub unspecified_v6 : IsKeptFrom (v6 0 0 0 0) × IsKeptFrom (v6 0 0 0 1)
  pub mapped : IsReached (v6 0 0xffff 0x09ff 0xffff) × IsKeptFrom (v6 0 0xffff 0x0a00 0) × IsKeptFrom (v6 0 0xffff 0x7f00 1)
      × IsReached (v6 0 0xffff 0x8000 0)
  pub mapped_protocols : IsKeptFrom (v6 0 0xffff 0xc000 0x00ff) × IsReached (v6 0 0xffff 0xc000 0x0100)
  pub not_mapped : IsReached (v6 0 0xfffe 0x7f00 1) × IsReached (v6 1 0xffff 0x7f00 1)
  pub unique_local : IsReached (v6 0xfbff 0 0 1) × IsKeptFrom (v6 0xfc00 0 0 0) × IsKeptFrom (v6 0xfdff 0 0 1)
  pub link_local_v6 : IsKeptFrom (v6 0xfe80 0 0 1) × IsKeptFrom (v6 0xfebf 0 0 1)
  pub multicast_v6 : IsKeptFrom (v6 0xff00 0 0 0) × IsKeptFrom (v6 0xffff 0 0 1)
  pub own_address : is_allowed (Ipv4 (record { octets = 127 ∷ 0 ∷ 0 ∷ 1 ∷ [] })) (v4 127 0 0 1) ≡ true
  pub other_address : is_allowed (Ipv4 (record { octets = 127 ∷ 0 ∷ 0 ∷ 1 ∷ [] })) (v4 127 0 0 2) ≡ false
  pub other_family : is_allowed (Ipv4 (record { octets = 127 ∷ 0 ∷ 0 ∷ 1 ∷ [] })) (v6 0 0xffff 0x7f00 1) ≡ false
